-- SPDX-License-Identifier: MIT
use Rattle.std.proofs.Common.{◌≡◌, ◌<◌, ◌+◌, ◌++◌, ◌∷◌, [], List, Bor, length, get_or, set, take, drop, map, ap, subst, sym, ◌∙◌, arith}
use Rattle.std.proofs.lemmas.List.{get_or_default, drop_more, drop_all, take_more, length-take-le, map-append}
use Rattle.std.proofs.lemmas.Option.{get_or_from_slice_get}
use Rattle.rrc_history.specs.declared.event.Event.{Event}
use Rattle.rrc_collate.specs.declared.script.Operation.{Operation}
use Rattle.rrc_collate.specs.Operations.{lent_operation}
use Rattle.rrc_collate.specs.Draws.{IsFirst, HasNoFirst, Fits, IsDrawn}
use Rattle.rrc_collate.proofs.DrawLemmas.{tag_at, fits_none, fits_on, fits_all, drawn_more, takes, Takes, FitsOn}
use Rattle.rrc_collate.proofs.draws.draw.Goals as goal

pub returns-in-None-clause-none : goal.returns-in-None-clause-none
returns-in-None-clause-none c =
    let parts = c.loop-place.parts in
    let script = c.args.script.now in
    let place = c.loop-place.place in
    let operation = lent_operation c.at-operation.result in
    let below : place < length script =
    subst (λ n. place < n) c.len-place-end.ensures c.loop-place-test.true in
    let hands = c.index-parts-operation.result in
    let is = c.at-operation.ensures in
    let here = sym (get_or_from_slice_get script place operation operation is) in
    let names_part =
    subst (λ (o : Operation). o.part < length c.args.parts.now) (sym here)
    (c.requires.parts place operation below) in
    let stay = c.loop-place.auto.parts in
    let in_parts : operation.part < length parts = omega (arith, names_part, stay) in
    let is_hands = get_or_default parts operation.part hands [] in_parts in
    let none = subst (λ (l : List (List Event)). HasNoFirst (tag_at c.args.line place) operation.call (get_or l c.args.worker [])) is_hands c.in-None.ensures.none in
    let behind : drop place script ≡ operation ∷ drop (place + 1) script =
    drop_more script place operation below ∙ ap (λ o. o ∷ drop (place + 1) script) (sym here) in
    λ events left fits.
    let rest = c.loop-place.invariant.rest events left fits in
    fits_none parts c.args.worker c.args.line place operation (drop (place + 1) script) rest.others left none
    (subst (λ s. Fits parts c.args.worker c.args.line place s rest.others left) behind rest.fits)

pub loop-place-preserved : goal.loop-place-preserved
loop-place-preserved c =
    let parts = c.loop-place.parts in
    let script = c.args.script.now in
    let place = c.loop-place.place in
    let worker = c.args.worker in
    let operation = lent_operation c.at-operation.result in
    let below : place < length script =
    subst (λ n. place < n) c.len-place-end.ensures c.loop-place-test.true in
    let hands = c.index-parts-operation.result in
    let event = c.in-Some.event in
    let is = c.at-operation.ensures in
    let here = sym (get_or_from_slice_get script place operation operation is) in
    let names_part =
    subst (λ (o : Operation). o.part < length c.args.parts.now) (sym here)
    (c.requires.parts place operation below) in
    let stay = c.loop-place.auto.parts in
    let in_parts : operation.part < length parts = omega (arith, names_part, stay) in
    let is_hands = get_or_default parts operation.part hands [] in_parts in
    let first = subst (λ (l : List (List Event)). IsFirst (tag_at c.args.line place) operation.call event.now (get_or l worker [])) is_hands c.in-Some.ensures.some in
    let drawn = c.loop-place.invariant.drawn in
    let has_worker = c.requires.workers operation.part [] names_part in
    let workers_stay = drawn.workers_stay operation.part in
    let same_size = ap (λ (l : List (List Event)). length l) is_hands in
    let in_hands : worker < length (get_or parts operation.part hands) = omega (arith, has_worker, workers_stay, same_size) in
    let left = set parts operation.part c.take_next.new.hands in
    let took : Takes parts left operation.part worker =
    takes parts operation.part worker (get_or parts operation.part hands) c.take_next.new.hands in_parts is_hands in_hands c.in-Some.ensures.rest in
    let behind : drop place script ≡ operation ∷ drop (place + 1) script =
    drop_more script place operation below ∙ ap (λ o. o ∷ drop (place + 1) script) (sym here) in
    let more : take (place + 1) script ≡ take place script ++ operation ∷ [] =
    take_more script place operation below ∙ ap (λ o. take place script ++ o ∷ []) (sym here) in
    let now : Bor Event → Event = λ borrowed. borrowed.now in
    let events = map now c.loop-place.events.items in
    let pushed : map now c.push.new.self.items ≡ events ++ event.now ∷ [] =
    ap (map now) c.in_ok-push-in-Some.ensures.items ∙ map-append now c.loop-place.events.items (event ∷ []) in
    let size = length-take-le place script (omega (arith, below)) in
    record {
      drawn =
          subst (λ es. IsDrawn c.args.parts.now worker c.args.line (take (place + 1) script) es left) (sym pushed)
          (subst (λ s. IsDrawn c.args.parts.now worker c.args.line s (events ++ event.now ∷ []) left) (sym more)
          (drawn_more c.args.parts.now parts left worker c.args.line place (take place script) events operation event.now (sym size) took first drawn));
      rest = λ others behinds fits.
          let rest = c.loop-place.invariant.rest others behinds fits in
          subst (λ es. FitsOn left worker c.args.line (place + 1) (drop (place + 1) script) es others behinds) (sym pushed)
          (fits_on parts left worker c.args.line place operation (drop (place + 1) script) event.now events others behinds took first.1
          (subst (λ s. FitsOn parts worker c.args.line place s events others behinds) behind rest));
    }

pub returns-clause-only : goal.returns-clause-only
returns-clause-only c =
    let none = drop_all c.loop-place.place c.args.script.now (omega (arith, c.loop-place-test.false)) in
    let now : Bor Event → Event = λ borrowed. borrowed.now in
    let drawn = map now c.loop-place.events.items in
    λ events behind fits.
    fits_all c.loop-place.parts c.args.worker c.args.line c.loop-place.place drawn events behind
    (subst (λ s. FitsOn c.loop-place.parts c.args.worker c.args.line c.loop-place.place s drawn events behind) none (c.loop-place.invariant.rest events behind fits))
