-- SPDX-License-Identifier: MIT
use Rattle.std.proofs.Common.{◌++◌}
use Rattle.std.proofs.lemmas.List.Elements.{All-append, All-same}
use Rattle.rrc_sets.specs.Kept.{IsOfRecords}
use Rattle.rrc_sets.proofs.relevant.relevant_of.Goals as goal

pub returns-clause-kept : goal.returns-clause-kept
returns-clause-kept c =
    let relevant = c.in_ok-offers.offers.items in let cleared = c.in_ok-cleared.cleared.items in
    All-same IsOfRecords c.append.new.self.items (relevant ++ cleared) c.in_ok-append.ensures.items
    (All-append IsOfRecords relevant cleared c.in_ok-offers.ensures.kept c.in_ok-cleared.ensures.kept)
