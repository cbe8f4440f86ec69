-- SPDX-License-Identifier: MIT
use Rattle.std.proofs.Common.{◌<◌, ℕ, List, length, sym, subst, arith}
use Rattle.std.proofs.lemmas.Bool.Decides.{nat_tests}
use Rattle.rrc_wire.specs.declared.source.Source.TheInside.{Inside}
use Rattle.rrc_wire.specs.Chain.{PointsTo, Leads, ends, AreEnds}
use Rattle.rrc_wire.proofs.Chains.{leads-table, target-in}
use Rattle.rrc_wire.proofs.source.Source.end_of_chain.Goals as goal
use Rattle.rrc_wire.proofs.source.Source.end_of_chain.Goals.{then-is_empty+in_ok-self-inside-in-Some, else-is_empty}

-- the table has the pointer's target
abbrev Has : List ℕ → ℕ → Inside → Type 0
Has message target inside = AreEnds message inside.ends.items × (target < length inside.ends.items)

pub returns-in-None-clause-ok : goal.returns-in-None-clause-ok
returns-in-None-clause-ok c = subst (λ message. Leads message c.args.place c.args.place) c.self.view_is (ends c.in-None.ensures)

pub returns-after-is_empty-clause-ok : goal.returns-after-is_empty-clause-ok
returns-after-is_empty-clause-ok c =
    let message = c.self.inside.message.now in let target = c.in-Some.target in
    let to : PointsTo message c.args.place target = c.in-Some.ensures in
    let in_whole = target-in message c.args.place target to in
    let table : Has message target c.if-is_empty.self-inside =
    elim c.if-is_empty.branch [
      | then-is_empty+in_ok-self-inside-in-Some w ↦
          let made = w.in_ok-self-inside-in-Some.ensures in subst (Has message target) (sym w.self-inside-is) (made.ok, omega (arith, in_whole, made.whole))
      | else-is_empty w ↦
          let some : 0 < length c.self.inside.ends.items = grind (arith, nat_tests, w.if-is_empty.ensures, c.self.inside.ends.ok) in
          subst (Has message target) (sym w.self-inside-is) (c.self.invariant.0.are_ends, omega (arith, in_whole, c.self.invariant.0.whole some))
    ] in
    let leads : Leads message c.args.place c.index.result.now = leads-table message c.if-is_empty.self-inside.ends.items c.args.place target c.index.result.now table.0 to table.1 c.index.ensures in
    rw c.from.ensures (subst (λ octets. Leads octets c.args.place c.index.result.now) c.self.view_is leads)
