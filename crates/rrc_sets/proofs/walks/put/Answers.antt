-- SPDX-License-Identifier: MIT
use Rattle.std.proofs.Common.{◌≡◌, ◌++◌, [], ◌∷◌, Some, None, true, position, sym, ap, subst, ◌∙◌}
use Rattle.std.specs.List.{slice_set}
use Rattle.std.proofs.lemmas.List.Quantifiers.{position-Some}
use Rattle.rrc_sets.specs.Sets.{SetOf}
use Rattle.rrc_sets.specs.Gathering.{holds, grown}
use Rattle.rrc_sets.proofs.Places.{takes, with_record-Some, with_record-None}
use Rattle.rrc_sets.proofs.walks.put.Goals as goal

pub grow-requires : goal.grow-requires
grow-requires c =
    let sets = c.args.sets.now.items in let rr = c.args.rr.now in let place = c.in-Some.place in
    let at : position (takes rr) sets ≡ Some place = ap (position (takes rr)) (sym c.as_slice.ensures.value) ∙ sym c.in-Some.ensures.place in
    subst (λ (set : SetOf). holds set rr ≡ true) (sym c.index_mut.ensures.value) (position-Some (takes rr) sets place c.index_mut.result.now at).1

pub returns-in_ok-grow-in-Some : goal.returns-in_ok-grow-in-Some
returns-in_ok-grow-in-Some c =
    let sets = c.args.sets.now.items in let rr = c.args.rr.now in let place = c.in-Some.place in
    let at : position (takes rr) sets ≡ Some place = ap (position (takes rr)) (sym c.as_slice.ensures.value) ∙ sym c.in-Some.ensures.place in
    ap (slice_set sets place) (c.in_ok-grow-in-Some.ensures ∙ ap (λ set. grown set rr) c.index_mut.ensures.value)
    ∙ sym (with_record-Some sets rr place c.index_mut.result.now at)

pub returns-in_ok-push-in-None : goal.returns-in_ok-push-in-None
returns-in_ok-push-in-None c =
    let sets = c.args.sets.now.items in let rr = c.args.rr.now in
    let nowhere : position (takes rr) sets ≡ None = ap (position (takes rr)) (sym c.as_slice.ensures.value) ∙ sym c.in-None.ensures.place in
    c.in_ok-push-in-None.ensures.items
    ∙ (ap (λ set. sets ++ set ∷ []) c.in_ok-alone-in-None.ensures ∙ sym (with_record-None sets rr nowhere))
