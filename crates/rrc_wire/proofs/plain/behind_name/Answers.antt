-- SPDX-License-Identifier: MIT
use Rattle.std.proofs.Common.{◌≡◌, ◌∙◌, ◌∷◌, List, ℕ, sym, ap, subst, arith}
use Rattle.std.proofs.lemmas.List.{take_rest}
use Rattle.rrc_wire.proofs.FrontNames.{Leaves, Fits, leaves_all, leaves_behind_label, leaves_nothing, nothing_begins}
use Rattle.rrc_wire.proofs.plain.behind_name.Goals as goal
use Rattle.rrc_wire.proofs.plain.behind_name.Goals.{then-size-gt63-via-then-size-gt63, then-size-gt63-via-else-size-gt63+then-size-others, then-size-gt63-via-else-size-gt63+else-size-others+then-size-room}

-- the rest begins with the length of a label
with_first : (octets : List ℕ) (room : ℕ) (rest : List ℕ) (size first : ℕ) (others : List ℕ) → Leaves octets room rest → rest ≡ first ∷ others → size ≡ first → Leaves octets room (size ∷ others)
with_first octets room rest size first others leaves is same = subst (Leaves octets room) (is ∙ ap (λ n. n ∷ others) (sym same)) leaves

pub loop-first-init : goal.loop-first-init
loop-first-init c = leaves_all c.args.octets.now (λ i. omega (arith, c.type_inv.octets i))

pub returns-clause-none : goal.returns-clause-none
returns-clause-none c = λ behind is.
    nothing_begins c.loop-first.room c.loop-first.rest.now behind c.in_default.ensures.cases (c.loop-first.invariant.left behind is)

pub returns-then-size-gt63-clause-none : goal.returns-then-size-gt63-clause-none
returns-then-size-gt63-clause-none c = λ behind is.
    let loop = c.loop-first in let size = c.from-size.result in let others = c.in-Some.others.now in
    let fits : Fits loop.room size others behind =
    leaves_nothing c.args.octets.now loop.room size others behind c.if-size-eq0.false
    (with_first c.args.octets.now loop.room loop.rest.now size c.in-Some.first.now others loop.invariant c.in-Some.ensures.cases.0 c.from-size.ensures) is in
    elim c.then-size-gt63.branch [
      | then-size-gt63-via-then-size-gt63 w ↦ absurd (omega (arith, fits.few))
      | then-size-gt63-via-else-size-gt63+then-size-others w ↦ absurd (omega (arith, fits.here))
      | then-size-gt63-via-else-size-gt63+else-size-others+then-size-room w ↦ absurd (omega (arith, fits.room))
    ]

pub loop-first-preserved : goal.loop-first-preserved
loop-first-preserved c =
    let loop = c.loop-first in let size = c.from-size.result in let others = c.in-Some.others.now in
    leaves_behind_label c.args.octets.now loop.room size others _ c.if-size-eq0.false c.if-size-gt63.false c.if-size-others.false c.if-size-room.false (take_rest others size)
    (with_first c.args.octets.now loop.room loop.rest.now size c.in-Some.first.now others loop.invariant c.in-Some.ensures.cases.0 c.from-size.ensures)
