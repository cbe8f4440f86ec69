-- SPDX-License-Identifier: MIT
use Rattle.std.proofs.Common.{◌≡◌, List, Bor, [], length, ap, subst, sym, ◌∙◌}
use Rattle.std.specs.Prelude.{IfSome, IfNone, is_some}
use Rattle.std.specs.List.{All, AllZip}
use Rattle.std.proofs.lemmas.Bool.{false≢true}
use Rattle.rrc_history.specs.declared.event.Event.{Event}
use Rattle.rrc_collate.specs.Drawn.{DrawnOf}
use Rattle.rrc_collate.specs.Hands.{AreDealt}
use Rattle.rrc_collate.specs.Tasks.{AreDone, AreOnlyDone, CanNotBeDone}
use Rattle.rrc_collate.specs.Collated.{histories_of}
use Rattle.rrc_collate.proofs.HandLemmas.{shown}
use Rattle.rrc_collate.proofs.DealtHistories.{written_back, Dealt, AreNothing, zip_histories, hands_sizes, parts_below, written_fits, fits_written, only_written, named_histories, named_wholes}
use Rattle.rrc_collate.proofs.order.events_in.Goals as goal

pub returns-in-None-clause-strayed : goal.returns-in-None-clause-strayed
returns-in-None-clause-strayed c =
    λ others written.
    let named = c.in_ok-deal_all.ensures.named.1 (named_wholes (length c.args.owners.now) c.args.wholes.now written.named) in
    false≢true (ap is_some (sym c.in-None.is) ∙ named)

pub draw_all-requires-clause-hands : goal.draw_all-requires-clause-hands
draw_all-requires-clause-hands c =
    let all = subst (λ found. IfSome found (λ parts. AllZip (λ whole hands. AreDealt c.args.workers c.args.owners.now whole.events hands) c.args.wholes.now parts.items)) c.in-Some.is c.in_ok-deal_all.ensures.dealt in
    let dealt = zip_histories (Dealt c.args.workers c.args.owners.now) c.args.wholes.now c.in-Some.parts.items all in
    subst (λ parts. All (λ hands. length hands ≡ c.args.workers) parts) (sym c.as_mut_slice.ensures.value)
    (hands_sizes c.args.workers c.args.owners.now (histories_of c.args.wholes.now) c.in-Some.parts.items dealt)

pub draw_all-requires-clause-parts : goal.draw_all-requires-clause-parts
draw_all-requires-clause-parts c =
    let all = subst (λ found. IfSome found (λ parts. AllZip (λ whole hands. AreDealt c.args.workers c.args.owners.now whole.events hands) c.args.wholes.now parts.items)) c.in-Some.is c.in_ok-deal_all.ensures.dealt in
    let dealt = zip_histories (Dealt c.args.workers c.args.owners.now) c.args.wholes.now c.in-Some.parts.items all in
    (parts_below c.args.workers c.args.owners.now c.args.wholes.now c.as_mut_slice.result.now c.args.tasks.now
    (subst (λ parts. AllZip (Dealt c.args.workers c.args.owners.now) (histories_of c.args.wholes.now) parts) (sym c.as_mut_slice.ensures.value) dealt) c.requires.parts).0

pub returns-in-None-2-clause-strayed : goal.returns-in-None-2-clause-strayed
returns-in-None-2-clause-strayed c =
    let parts = c.as_mut_slice.result.now in
    let histories = histories_of c.args.wholes.now in
    let tasks = c.args.tasks.now in
    let all = subst (λ found. IfSome found (λ parts. AllZip (λ whole hands. AreDealt c.args.workers c.args.owners.now whole.events hands) c.args.wholes.now parts.items)) c.in-Some.is c.in_ok-deal_all.ensures.dealt in
    let dealt = subst (λ parts. AllZip (Dealt c.args.workers c.args.owners.now) histories parts) (sym c.as_mut_slice.ensures.value)
    (zip_histories (Dealt c.args.workers c.args.owners.now) c.args.wholes.now c.in-Some.parts.items all) in
    let none = subst (λ found. IfNone found (CanNotBeDone parts tasks)) c.in-None-2.is c.in_ok-draw_all.ensures.none in
    λ others written.
    none others (λ part worker. [])
    (written_fits c.args.workers c.args.owners.now tasks histories others parts dealt c.requires.workers
    (parts_below c.args.workers c.args.owners.now c.args.wholes.now parts tasks dealt c.requires.parts).1 written)

pub returns-then-are_empty-clause-written : goal.returns-then-are_empty-clause-written
returns-then-are_empty-clause-written c =
    let parts = c.as_mut_slice.result.now in
    let left = c.draw_all.new.parts in
    let histories = histories_of c.args.wholes.now in
    let tasks = c.args.tasks.now in
    let all = subst (λ found. IfSome found (λ parts. AllZip (λ whole hands. AreDealt c.args.workers c.args.owners.now whole.events hands) c.args.wholes.now parts.items)) c.in-Some.is c.in_ok-deal_all.ensures.dealt in
    let dealt = subst (λ parts. AllZip (Dealt c.args.workers c.args.owners.now) histories parts) (sym c.as_mut_slice.ensures.value)
    (zip_histories (Dealt c.args.workers c.args.owners.now) c.args.wholes.now c.in-Some.parts.items all) in
    let now : Bor Event → Event = λ borrowed. borrowed.now in
    let items : DrawnOf → List (Bor Event) = λ own. own.items in
    let events = shown items now c.in-Some-2.events.items in
    let done = subst (λ found. IfSome found (λ events. AreDone parts tasks (shown items now events.items) left)) c.in-Some-2.is c.in_ok-draw_all.ensures.done in
    let size = c.as_mut_slice.ensures.len in
    let same = ap length c.as_mut_slice.ensures.value in
    let stay = done.parts_stay in
    let back : c.as_slice.result.now ≡ left =
    c.as_slice.ensures.value ∙ written_back c.in-Some.parts.len left c.in-Some.parts.items (stay ∙ size) (sym same ∙ size) in
    let empty = subst (λ parts. All AreNothing parts) back (c.are_empty.ensures.0 c.if-are_empty.true) in
    let named = named_histories (length c.args.owners.now) c.args.wholes.now (c.in_ok-deal_all.ensures.named.0 (ap is_some c.in-Some.is)) in
    fits_written c.args.workers c.args.owners.now tasks histories events parts left dealt named done empty

pub returns-then-are_empty-clause-only : goal.returns-then-are_empty-clause-only
returns-then-are_empty-clause-only c =
    let parts = c.as_mut_slice.result.now in
    let left = c.draw_all.new.parts in
    let histories = histories_of c.args.wholes.now in
    let tasks = c.args.tasks.now in
    let all = subst (λ found. IfSome found (λ parts. AllZip (λ whole hands. AreDealt c.args.workers c.args.owners.now whole.events hands) c.args.wholes.now parts.items)) c.in-Some.is c.in_ok-deal_all.ensures.dealt in
    let dealt = subst (λ parts. AllZip (Dealt c.args.workers c.args.owners.now) histories parts) (sym c.as_mut_slice.ensures.value)
    (zip_histories (Dealt c.args.workers c.args.owners.now) c.args.wholes.now c.in-Some.parts.items all) in
    let now : Bor Event → Event = λ borrowed. borrowed.now in
    let items : DrawnOf → List (Bor Event) = λ own. own.items in
    let events = shown items now c.in-Some-2.events.items in
    let only = subst (λ found. IfSome found (λ events. AreOnlyDone parts tasks (shown items now events.items) left)) c.in-Some-2.is c.in_ok-draw_all.ensures.only in
    λ others written.
    (only_written c.args.workers c.args.owners.now c.args.wholes.now tasks events others parts left dealt c.requires.workers c.requires.parts only written).0

pub returns-clause-strayed : goal.returns-clause-strayed
returns-clause-strayed c =
    let parts = c.as_mut_slice.result.now in
    let left = c.draw_all.new.parts in
    let histories = histories_of c.args.wholes.now in
    let tasks = c.args.tasks.now in
    let all = subst (λ found. IfSome found (λ parts. AllZip (λ whole hands. AreDealt c.args.workers c.args.owners.now whole.events hands) c.args.wholes.now parts.items)) c.in-Some.is c.in_ok-deal_all.ensures.dealt in
    let dealt = subst (λ parts. AllZip (Dealt c.args.workers c.args.owners.now) histories parts) (sym c.as_mut_slice.ensures.value)
    (zip_histories (Dealt c.args.workers c.args.owners.now) c.args.wholes.now c.in-Some.parts.items all) in
    let now : Bor Event → Event = λ borrowed. borrowed.now in
    let items : DrawnOf → List (Bor Event) = λ own. own.items in
    let events = shown items now c.in-Some-2.events.items in
    let done = subst (λ found. IfSome found (λ events. AreDone parts tasks (shown items now events.items) left)) c.in-Some-2.is c.in_ok-draw_all.ensures.done in
    let only = subst (λ found. IfSome found (λ events. AreOnlyDone parts tasks (shown items now events.items) left)) c.in-Some-2.is c.in_ok-draw_all.ensures.only in
    let size = c.as_mut_slice.ensures.len in
    let same = ap length c.as_mut_slice.ensures.value in
    let stay = done.parts_stay in
    let back : c.as_slice.result.now ≡ left =
    c.as_slice.ensures.value ∙ written_back c.in-Some.parts.len left c.in-Some.parts.items (stay ∙ size) (sym same ∙ size) in
    λ others written.
    let empty = (only_written c.args.workers c.args.owners.now c.args.wholes.now tasks events others parts left dealt c.requires.workers c.requires.parts only written).1 in
    false≢true (sym c.if-are_empty.false ∙ c.are_empty.ensures.1 (subst (λ parts. All AreNothing parts) (sym back) empty))
