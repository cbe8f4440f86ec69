-- SPDX-License-Identifier: MIT
use Rattle.std.proofs.Common.{rules, arith, ap, ◌∙◌, sym}
use Rattle.rrc_marks.proofs.Allowed.{join_allowed, look_allowed}
use Rattle.rrc_marks.proofs.Counted.{weighs_join, counted_join}
use Rattle.rrc_marks.proofs.marks.Marks.join.Goals as goal

pub join_seat-requires : goal.join_seat-requires
join_seat-requires c = (search rules, search rules, search rules, omega arith, join_allowed _ _ _ _ _ _ (omega arith))

pub load-requires : goal.load-requires
load-requires c = (
  search rules,
  omega arith,
  look_allowed _ _ _ _ _ (weighs_join _ _ _ _ _ _ _ _ _ c.pass.invariant c.other.invariant c.join_seat.ensures.2),
)

pub invariant_of-pass : goal.invariant_of-pass
invariant_of-pass c =
    let one_table = ap (λ h. h.table) c.other.view_is ∙ c.requires.other ∙ sym c.requires.own ∙ sym (ap (λ h. h.table) c.pass.view_is) in
    counted_join _ _ _ _ _ _ _ _ _ _ _ one_table (c.load.ensures.0 ∙ c.join_seat.ensures.0) c.pass.invariant c.other.invariant c.join_seat.ensures.2 c.load.ensures.2
