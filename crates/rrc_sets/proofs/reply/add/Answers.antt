-- SPDX-License-Identifier: MIT
use Rattle.std.proofs.Common.{subst}
use Rattle.std.specs.Prelude.{IfSome}
use Rattle.std.proofs.lemmas.List.Elements.{All-push, All-same}
use Rattle.rrc_sets.specs.Kept.{IsOfRecords}
use Rattle.rrc_sets.proofs.reply.add.Goals as goal

pub returns-in_ok-push-in-Some-clause-kept : goal.returns-in_ok-push-in-Some-clause-kept
returns-in_ok-push-in-Some-clause-kept c =
    All-same IsOfRecords c.push.new.self.items _ c.in_ok-push-in-Some.ensures.items
    (All-push IsOfRecords c.args.offers.now.items c.in-Some.offer c.requires.all (subst (λ offer. IfSome offer IsOfRecords) c.in-Some.is c.requires.one))
