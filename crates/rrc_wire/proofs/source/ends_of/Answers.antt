-- SPDX-License-Identifier: MIT
use Rattle.std.proofs.Common.{ℕ, sym, subst, arith, length-append}
use Rattle.rrc_wire.specs.Chain.{Leads, ends}
use Rattle.rrc_wire.proofs.Chains.{ends-push, leads-table}
use Rattle.rrc_wire.proofs.source.ends_of.Goals as goal
use Rattle.rrc_wire.proofs.source.ends_of.Goals.{in-Some, in-None}

pub loop-place-preserved : goal.loop-place-preserved
loop-place-preserved c =
    let message = c.args.message.now in let place = c.loop-place.place in let table = c.loop-place.ends.items in
    let leads : Leads message place c.match-target_of.end =
    elim c.match-target_of.branch [
      | in-Some w ↦ subst (Leads message place) (sym w.end-is)
          (leads-table message table place w.in-Some.target w.index.result.now c.loop-place.invariant.are_ends w.in-Some.ensures
          (let to = w.in-Some.ensures in omega (arith, to.lower, c.loop-place.invariant.many)) w.index.ensures)
      | in-None w ↦ subst (Leads message place) (sym w.end-is) (ends w.in-None.ensures)
    ] in
    rw c.in_ok-push.ensures.items (record {
      many = omega (arith, c.loop-place.invariant.many, length-append {A = ℕ});
      are_ends = ends-push message table place c.match-target_of.end c.loop-place.invariant.many c.loop-place.invariant.are_ends leads;
    })
