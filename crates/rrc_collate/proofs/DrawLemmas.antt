-- SPDX-License-Identifier: MIT
-- one event more is taken from a worker's hands
use Rattle.std.proofs.Common.{◌≡◌, ◌≢◌, ℕ, ◌+◌, ◌<◌, true, false, cond, eqb, List, [], ◌∷◌, ◌++◌, length, get_or, set, drop, Some, refl, sym, ◌∙◌, ap, arith, ⊎_elim}
use Rattle.std.specs.Prelude.{slice_get}
use Rattle.std.proofs.lemmas.Bool.{cases_eq, eq-eqb, ne_eqb, cond-true, cond-false}
use Rattle.std.proofs.lemmas.List.{length-set, get_or-set_same, get_or-set_other, append_assoc, append-nil}
use Rattle.rrc_history.specs.declared.event.Event.{Event}
use Rattle.rrc_history.specs.declared.event.Tag.{Tag}
use Rattle.rrc_collate.specs.declared.script.Operation.{Operation}
use Rattle.rrc_collate.specs.Calls.{AreCalls, going_to}
use Rattle.rrc_collate.specs.Draws.{IsNext, IsFirst, HasNoFirst, hand_of, Fits, IsDrawn}

abbrev pub tag_at : ℕ → ℕ → Tag
tag_at line place = record { line = line; place = place }

-- the first of a worker's hand in one part left
pub record Takes (parts left : List (List (List Event))) (part worker : ℕ) : Type 0 where
  pub own : hand_of left part worker ≡ drop 1 (hand_of parts part worker)
  pub other_part : (other : ℕ) → other ≢ part → hand_of left other worker ≡ hand_of parts other worker
  pub other_worker : (any other : ℕ) → other ≢ worker → hand_of left any other ≡ hand_of parts any other
  pub parts_stay : length left ≡ length parts
  pub workers_stay : (any : ℕ) → length (get_or left any []) ≡ length (get_or parts any [])

pub takes : (parts : List (List (List Event))) (part worker : ℕ) (hands taken : List (List Event)) → part < length parts → hands ≡ get_or parts part [] → worker < length hands
    → taken ≡ set hands worker (drop 1 (get_or hands worker [])) → Takes parts (set parts part taken) part worker
takes parts part worker hands taken in_parts is_hands in_hands is_taken =
    let here : get_or (set parts part taken) part [] ≡ set hands worker (drop 1 (get_or hands worker [])) = get_or-set_same parts part taken [] in_parts ∙ is_taken in
    record {
      own =
          ap (λ (l : List (List Event)). get_or l worker []) here
          ∙ (get_or-set_same hands worker (drop 1 (get_or hands worker [])) [] in_hands ∙ ap (λ (l : List (List Event)). drop 1 (get_or l worker [])) is_hands);
      other_part = λ other ne. ap (λ (l : List (List Event)). get_or l worker []) (get_or-set_other parts part other taken [] ne);
      other_worker = λ any other ne.
          ⊎_elim
          (λ (same : any ≡ part).
          ap (λ k. get_or (get_or (set parts part taken) k []) other []) same
          ∙ (ap (λ (l : List (List Event)). get_or l other []) here
          ∙ (get_or-set_other hands worker other (drop 1 (get_or hands worker [])) [] ne
          ∙ (ap (λ (l : List (List Event)). get_or l other []) is_hands ∙ ap (λ k. get_or (get_or parts k []) other []) (sym same)))))
          (λ (apart : any ≡ part → ⊥). ap (λ (l : List (List Event)). get_or l other []) (get_or-set_other parts part any taken [] apart))
          (cases_eq any part);
      parts_stay = length-set parts part taken;
      workers_stay = λ any.
          ⊎_elim
          (λ (same : any ≡ part).
          ap (λ k. length (get_or (set parts part taken) k [])) same
          ∙ (ap length here ∙ (length-set hands worker (drop 1 (get_or hands worker [])) ∙ (ap length is_hands ∙ ap (λ k. length (get_or parts k [])) (sym same)))))
          (λ (apart : any ≡ part → ⊥). ap length (get_or-set_other parts part any taken [] apart))
          (cases_eq any part);
    }

-- what goes to the part of an operation, and what goes to another
going_here : (part : ℕ) (operation : Operation) (operations : List Operation) (event : Event) (events : List Event) → part ≡ operation.part
    → going_to part (operation ∷ operations) (event ∷ events) ≡ event ∷ going_to part operations events
going_here part operation operations event events same =
    cond-true (eqb operation.part part) (event ∷ going_to part operations events) (going_to part operations events) (eq-eqb operation.part part (sym same))

going_elsewhere : (part : ℕ) (operation : Operation) (operations : List Operation) (event : Event) (events : List Event) → (part ≡ operation.part → ⊥)
    → going_to part (operation ∷ operations) (event ∷ events) ≡ going_to part operations events
going_elsewhere part operation operations event events other =
    cond-false (eqb operation.part part) (event ∷ going_to part operations events) (going_to part operations events) (ne_eqb operation.part part (λ e. other (sym e)))

-- what fits begins with the event that was taken
pub record FitsBehind (left : List (List (List Event))) (worker line place : ℕ) (operations : List Operation) (event : Event) (events : List Event) (behind : ℕ → List Event) : Type 0 where
  pub rest : List Event
  pub first : events ≡ event ∷ rest
  pub fits : Fits left worker line place operations rest behind

first_same : (event own : Event) (hand behind : List Event) → slice_get hand 0 ≡ Some event → hand ≡ own ∷ behind → own ≡ event
first_same event own hand behind first is = cc

pub fits_more : (parts left : List (List (List Event))) (worker line place : ℕ) (operation : Operation) (operations : List Operation) (event : Event) (events : List Event) (behind : ℕ → List Event)
    → Takes parts left operation.part worker → slice_get (hand_of parts operation.part worker) 0 ≡ Some event → Fits parts worker line place (operation ∷ operations) events behind
    → FitsBehind left worker line (place + 1) operations event events behind
fits_more parts left worker line place operation operations event [] behind takes is_first fits = absurd (fits.calls)
fits_more parts left worker line place operation operations event (own ∷ events) behind takes is_first fits =
    let head = fits.own operation.part ∙ ap (λ l. l ++ behind operation.part) (going_here operation.part operation operations own events refl) in
    record {
      rest = events;
      first = ap (λ e. e ∷ events) (first_same event own (hand_of parts operation.part worker) (going_to operation.part operations events ++ behind operation.part) is_first head);
      fits = record {
        calls = fits.calls.2;
        own = λ part.
            ⊎_elim
            (λ (same : part ≡ operation.part).
            ap (λ k. hand_of left k worker) same
            ∙ (takes.own
            ∙ (ap (λ k. drop 1 (hand_of parts k worker)) (sym same)
            ∙ ap (drop 1) (fits.own part ∙ ap (λ l. l ++ behind part) (going_here part operation operations own events same)))))
            (λ (other : part ≡ operation.part → ⊥).
            takes.other_part part other ∙ (fits.own part ∙ ap (λ l. l ++ behind part) (going_elsewhere part operation operations own events other)))
            (cases_eq part operation.part);
      };
    }

pub fits_none : (parts : List (List (List Event))) (worker line place : ℕ) (operation : Operation) (operations : List Operation) (events : List Event) (behind : ℕ → List Event)
    → HasNoFirst (tag_at line place) operation.call (hand_of parts operation.part worker) → Fits parts worker line place (operation ∷ operations) events behind → ⊥
fits_none parts worker line place operation operations [] behind none fits = fits.calls
fits_none parts worker line place operation operations (event ∷ events) behind none fits =
    let first = fits.own operation.part ∙ ap (λ l. l ++ behind operation.part) (going_here operation.part operation operations event events refl) in
    none event ((fits.calls.0, fits.calls.1), ap (λ l. slice_get l 0) first)

calls_more : (line place number : ℕ) (operations : List Operation) (events : List Event) (operation : Operation) (event : Event) → AreCalls line place operations events
    → number ≡ place + length operations → IsNext (tag_at line number) operation.call event → AreCalls line place (operations ++ operation ∷ []) (events ++ event ∷ [])
calls_more line place number [] [] operation event calls is_number next =
    let same : number ≡ place = omega (arith, is_number) in (next.0 ∙ ap (tag_at line) same, next.1, tt)
calls_more line place number [] (first ∷ behind) operation event calls is_number next = absurd calls
calls_more line place number (first ∷ behind) [] operation event calls is_number next = absurd calls
calls_more line place number (first ∷ behind) (own ∷ others) operation event calls is_number next =
    (calls.0, calls.1, calls_more line (place + 1) number behind others operation event calls.2 (omega (arith, is_number)) next)

going_more : (part line place : ℕ) (operations : List Operation) (events : List Event) (operation : Operation) (event : Event) → AreCalls line place operations events
    → going_to part (operations ++ operation ∷ []) (events ++ event ∷ []) ≡ going_to part operations events ++ cond (eqb operation.part part) (event ∷ []) []
going_more part line place [] [] operation event calls = refl
going_more part line place [] (own ∷ others) operation event calls = absurd calls
going_more part line place (first ∷ behind) [] operation event calls = absurd calls
going_more part line place (first ∷ behind) (own ∷ others) operation event calls =
    let rest = going_more part line (place + 1) behind others operation event calls.2 in
    let whole = going_to part (behind ++ operation ∷ []) (others ++ event ∷ []) in
    elim (eqb first.part part) as (λ b. cond b (own ∷ whole) whole ≡ cond b (own ∷ going_to part behind others) (going_to part behind others) ++ cond (eqb operation.part part) (event ∷ []) [])
    [ true ↦ ap (λ l. own ∷ l) rest | false ↦ rest ]

first_rest : (hand : List Event) (event : Event) → slice_get hand 0 ≡ Some event → hand ≡ event ∷ drop 1 hand
first_rest [] event first = absurd cc
first_rest (own ∷ behind) event first = let same : own ≡ event = cc in ap (λ e. e ∷ behind) same

pub drawn_more : (parts before left : List (List (List Event))) (worker line number : ℕ) (operations : List Operation) (events : List Event) (operation : Operation) (event : Event)
    → number ≡ length operations → Takes before left operation.part worker → IsFirst (tag_at line number) operation.call event (hand_of before operation.part worker)
    → IsDrawn parts worker line operations events before → IsDrawn parts worker line (operations ++ operation ∷ []) (events ++ event ∷ []) left
drawn_more parts before left worker line number operations events operation event is_number takes first drawn = record {
  fits = record {
    calls = calls_more line 0 number operations events operation event drawn.fits.calls (omega (arith, is_number)) first.0;
    own = λ part.
        let going = going_to part operations events in
        let more = going_more part line 0 operations events operation event drawn.fits.calls in
        ⊎_elim
        (λ (same : part ≡ operation.part).
        let one : cond (eqb operation.part part) (event ∷ []) [] ≡ event ∷ [] = cond-true (eqb operation.part part) (event ∷ []) [] (eq-eqb operation.part part (sym same)) in
        let taken : hand_of before part worker ≡ event ∷ hand_of left part worker =
        ap (λ k. hand_of before k worker) same
        ∙ (first_rest (hand_of before operation.part worker) event first.1
        ∙ (ap (λ l. event ∷ l) (sym takes.own) ∙ ap (λ k. event ∷ hand_of left k worker) (sym same))) in
        drawn.fits.own part
        ∙ (ap (λ l. going ++ l) taken
        ∙ (sym (append_assoc going (event ∷ []) (hand_of left part worker)) ∙ ap (λ l. l ++ hand_of left part worker) (sym (more ∙ ap (λ l. going ++ l) one)))))
        (λ (other : part ≡ operation.part → ⊥).
        let none : cond (eqb operation.part part) (event ∷ []) [] ≡ [] = cond-false (eqb operation.part part) (event ∷ []) [] (ne_eqb operation.part part (λ e. other (sym e))) in
        drawn.fits.own part
        ∙ (ap (λ l. going ++ l) (sym (takes.other_part part other))
        ∙ ap (λ l. l ++ hand_of left part worker) (sym (more ∙ (ap (λ l. going ++ l) none ∙ append-nil going)))))
        (cases_eq part operation.part);
  };
  others = λ part other ne. takes.other_worker part other ne ∙ drawn.others part other ne;
  parts_stay = takes.parts_stay ∙ drawn.parts_stay;
  workers_stay = λ part. takes.workers_stay part ∙ drawn.workers_stay part;
}

-- what fits the whole script is what was drawn, and then what fits the rest of the script
pub record FitsOn (parts : List (List (List Event))) (worker line place : ℕ) (rest : List Operation) (drawn events : List Event) (behind : ℕ → List Event) : Type 0 where
  pub others : List Event
  pub joined : events ≡ drawn ++ others
  pub fits : Fits parts worker line place rest others behind

pub fits_on : (parts left : List (List (List Event))) (worker line place : ℕ) (operation : Operation) (operations : List Operation) (event : Event) (drawn events : List Event) (behind : ℕ → List Event)
    → Takes parts left operation.part worker → slice_get (hand_of parts operation.part worker) 0 ≡ Some event
    → FitsOn parts worker line place (operation ∷ operations) drawn events behind → FitsOn left worker line (place + 1) operations (drawn ++ event ∷ []) events behind
fits_on parts left worker line place operation operations event drawn events behind takes is_first on =
    let more = fits_more parts left worker line place operation operations event on.others behind takes is_first on.fits in
    record {
      others = more.rest;
      joined = on.joined ∙ (ap (λ l. drawn ++ l) more.first ∙ sym (append_assoc drawn (event ∷ []) more.rest));
      fits = more.fits;
    }

-- with no operation left there is no event left
pub fits_all : (parts : List (List (List Event))) (worker line place : ℕ) (drawn events : List Event) (behind : ℕ → List Event)
    → FitsOn parts worker line place [] drawn events behind → (events ≡ drawn) × ((part : ℕ) → hand_of parts part worker ≡ behind part)
fits_all parts worker line place drawn events behind on =
    let none = no_events line place on.others on.fits.calls in
    (on.joined ∙ (ap (λ l. drawn ++ l) none ∙ append-nil drawn), λ part. on.fits.own part)
  where
    no_events : (line place : ℕ) (events : List Event) → AreCalls line place [] events → events ≡ []
    no_events line place [] calls = refl
    no_events line place (event ∷ events) calls = absurd calls
