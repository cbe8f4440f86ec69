-- SPDX-License-Identifier: MIT
use Rattle.std.proofs.Common.{sym, ap, subst, ◌∙◌}
use Rattle.rrc_name.specs.Wire.{IsWireForm}
use Rattle.rrc_wire.specs.Kept.{RrOf}
use Rattle.rrc_sets.proofs.Records.{alias_is_name}
use Rattle.rrc_sets.proofs.alias.target_of.Goals as goal

pub returns-clause-name : goal.returns-clause-name
returns-clause-name c =
    subst IsWireForm (sym c.as_slice.ensures)
    (alias_is_name c.alias.inside.rtype c.alias.inside.rdata (ap (λ (rr : RrOf). rr.rtype) c.alias.view_is ∙ c.in_ok-alias.ensures.cname) c.alias.invariant.plain)
