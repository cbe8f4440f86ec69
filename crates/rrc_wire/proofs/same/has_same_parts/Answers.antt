-- SPDX-License-Identifier: MIT
use Rattle.std.proofs.Common.{◌≡◌, ◌⊎◌, ◌∙◌, Bool, true, false, inl, inr, Decides}
use Rattle.std.specs.List.{concat}
use Rattle.std.proofs.lemmas.Bool.Decides.{Decides-at}
use Rattle.rrc_name.specs.Wire.{folded}
use Rattle.rrc_wire.specs.Plain.{Parts, parts_in}
use Rattle.rrc_wire.specs.Shown.{as_layout}
use Rattle.rrc_wire.proofs.LoweredParts.{same_parts-Decides, one_test_more, slices-Decides, names-Decides}
use Rattle.rrc_wire.proofs.same.has_same_parts.Goals as goal
use Rattle.rrc_wire.proofs.same.has_same_parts.Goals.{then-eq, else-eq}

-- the first test, and the second, which is made where the first holds
abbrev Tests : Bool → Bool → Parts → Parts → Type 0
Tests first all p q = ((first ≡ true) × Decides all (folded (concat p.names) ≡ folded (concat q.names))) ⊎ ((first ≡ false) × (all ≡ false))

pub returns-then-eq_ignore_ascii_case : goal.returns-then-eq_ignore_ascii_case
returns-then-eq_ignore_ascii_case c =
    let layout = as_layout c.args.layout in let a = c.args.a.now in let b = c.args.b.now in
    let p = parts_in layout a in let q = parts_in layout b in
    let x = c.parts_of.result in let y = c.parts_of-2.result in
    let from = c.parts_of.ensures in let other = c.parts_of-2.ensures in
    let all = c.if-eq.value in let last = c.eq-then-eq_ignore_ascii_case in
    let tests : Tests c.eq.result all p q =
    elim c.if-eq.branch [
      | then-eq w ↦ inl (
        w.if-eq.true,
        Decides-at all w.eq_ignore_ascii_case.result w.value-is
            (names-Decides w.eq_ignore_ascii_case.result x.1.now y.1.now (concat p.names) (concat q.names) w.eq_ignore_ascii_case.ensures.test from.names other.names),
      )
      | else-eq w ↦ inr (w.if-eq.false, w.value-is ∙ w.if-eq.false)
    ] in
    same_parts-Decides layout a b c.requires.a_fills c.requires.b_fills last.result
    (one_test_more all last.result (one_test_more c.eq.result all (slices-Decides c.eq.result x.0.now y.0.now p.before q.before c.eq.ensures from.before other.before) tests)
    (inl (c.if-eq_ignore_ascii_case.true, slices-Decides last.result x.2.now y.2.now p.behind q.behind last.ensures from.behind other.behind)))

pub returns-else-eq_ignore_ascii_case : goal.returns-else-eq_ignore_ascii_case
returns-else-eq_ignore_ascii_case c =
    let layout = as_layout c.args.layout in let a = c.args.a.now in let b = c.args.b.now in
    let p = parts_in layout a in let q = parts_in layout b in
    let x = c.parts_of.result in let y = c.parts_of-2.result in
    let from = c.parts_of.ensures in let other = c.parts_of-2.ensures in
    let all = c.if-eq.value in
    let tests : Tests c.eq.result all p q =
    elim c.if-eq.branch [
      | then-eq w ↦ inl (
        w.if-eq.true,
        Decides-at all w.eq_ignore_ascii_case.result w.value-is
            (names-Decides w.eq_ignore_ascii_case.result x.1.now y.1.now (concat p.names) (concat q.names) w.eq_ignore_ascii_case.ensures.test from.names other.names),
      )
      | else-eq w ↦ inr (w.if-eq.false, w.value-is ∙ w.if-eq.false)
    ] in
    same_parts-Decides layout a b c.requires.a_fills c.requires.b_fills all
    (one_test_more all all (one_test_more c.eq.result all (slices-Decides c.eq.result x.0.now y.0.now p.before q.before c.eq.ensures from.before other.before) tests)
    (inr (c.if-eq_ignore_ascii_case.false, c.if-eq_ignore_ascii_case.false)))
