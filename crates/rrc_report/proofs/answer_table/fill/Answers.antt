-- SPDX-License-Identifier: MIT
use Rattle.std.proofs.Common.{◌≡◌, ◌+◌, ◌++◌, ◌∷◌, [], List, length, map, Bor, ap, subst, sym, ◌∙◌, append_assoc}
use Rattle.std.specs.Prelude.{IfSome}
use Rattle.std.specs.Vec.Iter.{into_iter_items}
use Rattle.std.proofs.lemmas.List.{length_push}
use Rattle.rrc_history.specs.declared.event.Event.{Event}
use Rattle.rrc_collate.specs.Drawn.{DrawnOf}
use Rattle.rrc_report.specs.Answers.{Completes}
use Rattle.rrc_report.proofs.Tables.{fill_more}
use Rattle.rrc_report.proofs.answer_table.fill.Goals as goal

pub loop-one-preserved : goal.loop-one-preserved
loop-one-preserved c =
    let now : Bor Event → Event = λ event. event.now in
    let items : DrawnOf → List (Bor Event) = λ own. own.items in
    let one = c.in-Some.one in
    let behind = into_iter_items c.next.new.self in
    let steps = c.in-Some.ensures.steps.0 in
    let are : c.loop-one.yielded ++ one ∷ behind ≡ c.args.given.items = ap (λ rest. c.loop-one.yielded ++ rest) (sym steps) ∙ c.loop-one.invariant.rest in
    let some = subst (λ found. IfSome found (λ answer. Completes one.answer answer (map now c.as_slice.result.now))) c.in-Some-2.is c.in_ok-completed.ensures.some in
    let completes = subst (λ own. Completes one.answer c.in-Some-2.answer (map now own)) c.as_slice.ensures.value some in
    let at = c.loop-one.invariant.place in
    record {
      place = ap (λ n. n + 1) at ∙ sym (length_push c.loop-one.yielded one);
      rest = append_assoc c.loop-one.yielded (one ∷ []) behind ∙ are;
      filled =
          fill_more items now c.loop-one.table (length c.args.table.now) c.loop-one.yielded one behind c.args.given.items c.args.events.now c.loop-one.place c.index-events-place.result c.in-Some-2.answer
          c.requires.below c.requires.once c.requires.size c.loop-one.auto.table are at c.index-events-place.is c.loop-one.invariant.filled completes;
    }
