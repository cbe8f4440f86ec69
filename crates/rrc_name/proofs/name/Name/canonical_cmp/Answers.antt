-- SPDX-License-Identifier: MIT
use Rattle.std.proofs.Common.{◌≡◌, ◌∙◌, sym, subst}
use Rattle.rrc_name.specs.Wire.{IsWireForm}
use Rattle.rrc_name.specs.Order.{canonical_order}
use Rattle.rrc_name.proofs.NameTies.{same-from_tie, tie-from_same}
use Rattle.rrc_name.proofs.name.Name.canonical_cmp.Goals as goal

pub returns-clause-same : goal.returns-clause-same
returns-clause-same c =
    let is = subst IsWireForm c.self.view_is c.self.invariant in
    let is_other = subst IsWireForm c.other.view_is c.other.invariant in
    let order : c.order_of_names.result ≡ canonical_order c.args.self.now c.args.other.now =
    rw (← c.self.view_is, ← c.other.view_is, ← c.deref.ensures, ← c.deref-2.ensures, ← c.as_slice.ensures, ← c.as_slice-2.ensures) c.order_of_names.ensures in (
      λ tied. same-from_tie c.args.self.now c.args.other.now is is_other (sym order ∙ tied),
      λ same. order ∙ tie-from_same c.args.self.now c.args.other.now is is_other same,
    )
