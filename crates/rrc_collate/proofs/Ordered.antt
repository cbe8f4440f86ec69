-- SPDX-License-Identifier: MIT
-- what is written with a table of owners, and what is in order
use Rattle.std.proofs.Common.{◌≡◌, ℕ, ◌<◌, Bool, true, false, cond, eqb, List, [], ◌∷◌, get_or, Option, Some, None, Result, Ok, Err, refl, sym, ◌∙◌, ap, subst, ⊎_elim, arith}
use Rattle.std.specs.Prelude.{filter, slice_get, IfOk, IfSome, IfNone}
use Rattle.std.specs.List.{All}
use Rattle.std.proofs.lemmas.Bool.{cases_Bool, cond-true, cond-false}
use Rattle.std.proofs.lemmas.Option.{slice_get-get_or}
use Rattle.std.proofs.lemmas.List.Elements.{All-nil, All-cons, All-head, All-tail, All-map}
use Rattle.rrc_history.specs.declared.event.Event.{Event}
use Rattle.rrc_history.specs.declared.chains.Whole.{Whole}
use Rattle.rrc_collate.specs.declared.valued.Valued.{Valued}
use Rattle.rrc_collate.specs.declared.task.Task.{Task}
use Rattle.rrc_collate.specs.Words.{NeverFalls, class_of, AreSharedOut, AreOwners}
use Rattle.rrc_collate.specs.Calls.{tag_of}
use Rattle.rrc_collate.specs.Hands.{AreNamed, is_of, events_of}
use Rattle.rrc_collate.specs.Collated.{taken_by, own_events, AreInOrder, AreWritten, histories_of}
use Rattle.rrc_collate.proofs.DealtHistories.{IsBelow, named_wholes}

filter_same : {X : Type 0} (p q : X → Bool) (xs : List X) → All (λ x. p x ≡ q x) xs → filter p xs ≡ filter q xs
filter_same p q [] same = refl
filter_same p q (x ∷ xs) same =
    let rest = filter_same p q xs (All-tail (λ x. p x ≡ q x) x xs same) in
    ap (λ b. cond b (x ∷ filter p xs) (filter p xs)) (All-head (λ x. p x ≡ q x) x xs same) ∙ ap (λ l. cond (q x) (x ∷ l) l) rest

own_same : (lines worker : ℕ) (owners : List ℕ) (tasks : List Task) (history : List Event) → AreOwners lines (taken_by tasks) owners → AreNamed lines history
    → own_events worker tasks history ≡ events_of worker owners history
own_same lines worker owners tasks history are named =
    filter_same (λ event. is_of worker (class_of (tag_of event).line (taken_by tasks))) (λ event. is_of worker (slice_get owners (tag_of event).line)) history
    (λ k d within. ap (is_of worker) (sym (are.each (tag_of (get_or history k d)).line (named k d within))))

class_below : (workers value class : ℕ) (values : List Valued) → All (λ valued. valued.class < workers) values → class_of value values ≡ Some class → class < workers
class_below workers value class [] below is = absurd cc
class_below workers value class (first ∷ behind) below is =
    ⊎_elim
    (λ (same : eqb first.value value ≡ true).
    let some : Some first.class ≡ Some class = sym (cond-true (eqb first.value value) (Some first.class) (class_of value behind) same) ∙ is in
    let own : first.class ≡ class = cc in
    subst (λ n. n < workers) own (All-head (λ (valued : Valued). valued.class < workers) first behind below))
    (λ (other : eqb first.value value ≡ false).
    class_below workers value class behind (All-tail (λ (valued : Valued). valued.class < workers) first behind below)
    (sym (cond-false (eqb first.value value) (Some first.class) (class_of value behind) other) ∙ is))
    (cases_Bool (eqb first.value value))

pub taken_below : (workers : ℕ) (tasks : List Task) → All (IsBelow workers) tasks → All (λ valued. valued.class < workers) (taken_by tasks)
taken_below workers tasks below =
    let taken : Task → Valued = λ task. record { class = task.worker; value = task.line } in
    All-map (λ (valued : Valued). valued.class < workers) taken tasks below

pub owners_below : (lines workers : ℕ) (tasks : List Task) (owners : List ℕ) → All (IsBelow workers) tasks → AreOwners lines (taken_by tasks) owners → All (λ owner. owner < workers) owners
owners_below lines workers tasks owners below are line d within =
    let here : line < lines = let size = are.size in omega (arith, size, within) in
    class_below workers line (get_or owners line d) (taken_by tasks) (taken_below workers tasks below) (sym (are.each line here) ∙ slice_get-get_or owners line d within)

in_order_from : (lines workers : ℕ) (owners : List ℕ) (tasks : List Task) (histories events : List (List Event)) → AreSharedOut lines (taken_by tasks) → NeverFalls (taken_by tasks)
    → AreOwners lines (taken_by tasks) owners → AreWritten workers owners tasks histories events → AreInOrder lines workers tasks histories events
in_order_from lines workers owners tasks histories events shared_out rising are written =
    let named : All (AreNamed lines) histories = subst (λ n. All (AreNamed n) histories) are.size written.named in
    record {
      shared_out = shared_out;
      rising = rising;
      named = named;
      calls = written.calls;
      in_order = λ worker part in_workers in_parts.
          own_same lines worker owners tasks (get_or histories part []) are (named part [] in_parts) ∙ written.in_order worker part in_workers in_parts;
    }

written_from : (lines workers : ℕ) (owners : List ℕ) (tasks : List Task) (histories events : List (List Event)) → AreOwners lines (taken_by tasks) owners
    → AreInOrder lines workers tasks histories events → AreWritten workers owners tasks histories events
written_from lines workers owners tasks histories events are ordered = record {
  named = subst (λ n. All (AreNamed n) histories) (sym are.size) ordered.named;
  calls = ordered.calls;
  in_order = λ worker part in_workers in_parts.
      sym (own_same lines worker owners tasks (get_or histories part []) are (ordered.named part [] in_parts)) ∙ ordered.in_order worker part in_workers in_parts;
}

-- what `order` answers, from what `events_in` answered
pub ordered_by : {V E : Type 0} (shown : V → List (List Event)) (lines workers : ℕ) (owners : List ℕ) (tasks : List Task) (histories : List (List Event)) (result : Result (Option V) E)
    → AreSharedOut lines (taken_by tasks) → NeverFalls (taken_by tasks) → AreOwners lines (taken_by tasks) owners
    → IfOk result (λ found. IfSome found (λ events. AreWritten workers owners tasks histories (shown events)))
    → IfOk result (λ found. IfSome found (λ events. AreInOrder lines workers tasks histories (shown events)))
ordered_by shown lines workers owners tasks histories (Err e) shared_out rising are written = tt
ordered_by shown lines workers owners tasks histories (Ok None) shared_out rising are written = tt
ordered_by shown lines workers owners tasks histories (Ok (Some events)) shared_out rising are written =
    in_order_from lines workers owners tasks histories (shown events) shared_out rising are written

pub only_by : {V E : Type 0} (shown : V → List (List Event)) (lines workers : ℕ) (owners : List ℕ) (tasks : List Task) (histories : List (List Event)) (result : Result (Option V) E)
    → AreOwners lines (taken_by tasks) owners
    → IfOk result (λ found. IfSome found (λ events. (others : List (List Event)) → AreWritten workers owners tasks histories others → others ≡ shown events))
    → IfOk result (λ found. IfSome found (λ events. (others : List (List Event)) → AreInOrder lines workers tasks histories others → others ≡ shown events))
only_by shown lines workers owners tasks histories (Err e) are only = tt
only_by shown lines workers owners tasks histories (Ok None) are only = tt
only_by shown lines workers owners tasks histories (Ok (Some events)) are only =
    λ others ordered. only others (written_from lines workers owners tasks histories others are ordered)

pub strayed_by : {V E : Type 0} (lines workers : ℕ) (owners : List ℕ) (tasks : List Task) (histories : List (List Event)) (result : Result (Option V) E)
    → AreOwners lines (taken_by tasks) owners
    → IfOk result (λ found. IfNone found ((others : List (List Event)) → AreWritten workers owners tasks histories others → ⊥))
    → IfOk result (λ found. IfNone found ((others : List (List Event)) → AreInOrder lines workers tasks histories others → ⊥))
strayed_by lines workers owners tasks histories (Err e) are strayed = tt
strayed_by lines workers owners tasks histories (Ok (Some events)) are strayed = tt
strayed_by lines workers owners tasks histories (Ok None) are strayed =
    λ others ordered. strayed others (written_from lines workers owners tasks histories others are ordered)

-- what is in order has lines below their count
lines_of : (lines : ℕ) (tasks : List Task) → All (λ (valued : Valued). valued.value < lines) (taken_by tasks) → All (λ (task : Task). task.line < lines) tasks
lines_of lines [] below = All-nil (λ (task : Task). task.line < lines)
lines_of lines (task ∷ tasks) below =
    let taken : Valued = record { class = task.worker; value = task.line } in
    All-cons (λ (task : Task). task.line < lines) task tasks (All-head (λ (valued : Valued). valued.value < lines) taken (taken_by tasks) below)
    (lines_of lines tasks (All-tail (λ (valued : Valued). valued.value < lines) taken (taken_by tasks) below))

pub lines_below : (lines workers : ℕ) (tasks : List Task) (histories events : List (List Event)) → AreInOrder lines workers tasks histories events
    → All (λ (task : Task). task.line < lines) tasks
lines_below lines workers tasks histories events ordered = lines_of lines tasks ordered.shared_out.below

pub events_named : (lines workers : ℕ) (tasks : List Task) (wholes : List Whole) (events : List (List Event)) → AreInOrder lines workers tasks (histories_of wholes) events
    → All (λ (whole : Whole). AreNamed lines whole.events) wholes
events_named lines workers tasks wholes events ordered = named_wholes lines wholes ordered.named
