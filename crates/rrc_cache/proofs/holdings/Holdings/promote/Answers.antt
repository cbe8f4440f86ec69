-- SPDX-License-Identifier: MIT
use Rattle.std.proofs.Common.{sym, subst}
use Rattle.rrc_name.specs.Key.{key_eq}
use Rattle.rrc_name.specs.KeyRef.{key_of}
use Rattle.rrc_cache.specs.Counted.{IsCounted}
use Rattle.rrc_cache.proofs.Counted.{with_promoted}
use Rattle.rrc_cache.proofs.holdings.Holdings.promote.Goals as goal

pub invariant_of-self : goal.invariant_of-self
invariant_of-self c =
    subst (IsCounted c.self.inside.octets) (sym (with_promoted c.self.inside.keyed.map c.promote.new.self.map (key_eq (key_of c.args.key)) c.promote.ensures.entries)) c.self.invariant
