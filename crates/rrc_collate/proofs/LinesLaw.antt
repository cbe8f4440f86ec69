-- SPDX-License-Identifier: MIT
-- a line's events among those of all lines
use Rattle.std.proofs.Common.{◌≡◌, ◌≢◌, ℕ, ◌+◌, ◌<◌, Bool, true, false, cond, eqb, List, [], ◌∷◌, ◌++◌, length, get_or, Some, zero, suc, refl, sym, ◌∙◌, ap, subst, arith, ⊎_elim}
use Rattle.std.specs.Prelude.{filter}
use Rattle.std.specs.List.{AllZip}
use Rattle.std.proofs.lemmas.Bool.{cases_Bool, cases_eq, eq-eqb, ne_eqb, eqb-true, cond-true, cond-false}
use Rattle.std.proofs.lemmas.List.{append-nil}
use Rattle.rrc_history.specs.declared.event.Event.{Event}
use Rattle.rrc_history.specs.declared.event.Tag.{Tag}
use Rattle.rrc_collate.specs.declared.valued.Valued.{Valued}
use Rattle.rrc_collate.specs.declared.task.Task.{Task}
use Rattle.rrc_collate.specs.declared.script.Operation.{Operation}
use Rattle.rrc_collate.specs.Words.{NoneTwice, class_of}
use Rattle.rrc_collate.specs.Calls.{tag_of, AreCalls, going_to}
use Rattle.rrc_collate.specs.Hands.{is_of}
use Rattle.rrc_collate.specs.Tasks.{IsTaskOf, written_by}
use Rattle.rrc_collate.specs.Collated.{taken_by}
use Rattle.rrc_collate.specs.Lines.{is_of_line, EachLineStands}
use Rattle.rrc_collate.proofs.Pairs.{pairs_head, pairs_tail}

filter_within : {X : Type 0} (p q : X → Bool) (xs : List X) → ((x : X) → p x ≡ true → q x ≡ true) → filter p (filter q xs) ≡ filter p xs
filter_within p q [] inside = refl
filter_within p q (x ∷ xs) inside =
    let rest = filter_within p q xs inside in
    let kept = filter q xs in
    ⊎_elim
    (λ (passes : p x ≡ true).
    ap (filter p) (cond-true (q x) (x ∷ kept) kept (inside x passes))
    ∙ (cond-true (p x) (x ∷ filter p kept) (filter p kept) passes ∙ (ap (λ l. x ∷ l) rest ∙ sym (cond-true (p x) (x ∷ filter p xs) (filter p xs) passes))))
    (λ (fails : p x ≡ false).
    let one : (b : Bool) → filter p (cond b (x ∷ kept) kept) ≡ filter p kept =
    λ b. elim b as (λ b. filter p (cond b (x ∷ kept) kept) ≡ filter p kept) [ true ↦ cond-false (p x) (x ∷ filter p kept) (filter p kept) fails | false ↦ refl ] in
    one (q x) ∙ (rest ∙ sym (cond-false (p x) (x ∷ filter p xs) (filter p xs) fails)))
    (cases_Bool (p x))

filter_joined : {X : Type 0} (p : X → Bool) (xs ys : List X) → filter p (xs ++ ys) ≡ filter p xs ++ filter p ys
filter_joined p [] ys = refl
filter_joined p (x ∷ xs) ys =
    let rest = filter_joined p xs ys in
    elim (p x) as (λ b. cond b (x ∷ filter p (xs ++ ys)) (filter p (xs ++ ys)) ≡ cond b (x ∷ filter p xs) (filter p xs) ++ filter p ys)
    [ true ↦ ap (λ l. x ∷ l) rest | false ↦ rest ]

going_own : (line place part : ℕ) (operations : List Operation) (events : List Event) → AreCalls line place operations events
    → filter (is_of_line line) (going_to part operations events) ≡ going_to part operations events
going_own line place part [] events calls = refl
going_own line place part (operation ∷ operations) [] calls = refl
going_own line place part (operation ∷ operations) (event ∷ events) calls =
    let rest = going_own line (place + 1) part operations events calls.2 in
    let going = going_to part operations events in
    let own : is_of_line line event ≡ true = eq-eqb (tag_of event).line line (ap (λ (t : Tag). t.line) calls.0) in
    elim (eqb operation.part part) as (λ b. filter (is_of_line line) (cond b (event ∷ going) going) ≡ cond b (event ∷ going) going)
    [ true ↦ cond-true (is_of_line line event) (event ∷ filter (is_of_line line) going) (filter (is_of_line line) going) own ∙ ap (λ l. event ∷ l) rest | false ↦ rest ]

going_other : (line other place part : ℕ) (operations : List Operation) (events : List Event) → (line ≡ other → ⊥) → AreCalls line place operations events
    → filter (is_of_line other) (going_to part operations events) ≡ []
going_other line other place part [] events apart calls = refl
going_other line other place part (operation ∷ operations) [] apart calls = refl
going_other line other place part (operation ∷ operations) (event ∷ events) apart calls =
    let rest = going_other line other (place + 1) part operations events apart calls.2 in
    let going = going_to part operations events in
    let not_own : is_of_line other event ≡ false = ne_eqb (tag_of event).line other (λ same. apart (sym (ap (λ (t : Tag). t.line) calls.0) ∙ same)) in
    elim (eqb operation.part part) as (λ b. filter (is_of_line other) (cond b (event ∷ going) going) ≡ [])
    [ true ↦ cond-false (is_of_line other event) (event ∷ filter (is_of_line other) going) (filter (is_of_line other) going) not_own ∙ rest | false ↦ rest ]

abbrev Apart : Valued → Valued → Type 0
Apart earlier later = earlier.value ≢ later.value

-- tasks of other lines write nothing of a line
written_others : (line worker part : ℕ) (tasks : List Task) (events : List (List Event)) → ((k : ℕ) (d : Valued) → k < length (taken_by tasks) → line ≢ (get_or (taken_by tasks) k d).value)
    → AllZip IsTaskOf tasks events → filter (is_of_line line) (written_by worker part tasks events) ≡ []
written_others line worker part [] events apart calls = refl
written_others line worker part (task ∷ tasks) [] apart calls = refl
written_others line worker part (task ∷ tasks) (own ∷ others) apart calls =
    let rest = written_others line worker part tasks others (λ k d within. apart (suc k) d (omega (arith, within))) calls.1 in
    let going = going_to part task.operations own in
    let behind = written_by worker part tasks others in
    let none = going_other task.line line 0 part task.operations own (λ same. apart 0 (record { class = 0; value = 0 }) (omega arith) (sym same)) calls.0 in
    elim (eqb task.worker worker) as (λ b. filter (is_of_line line) (cond b (going ++ behind) behind) ≡ [])
    [ true ↦ filter_joined (is_of_line line) going behind ∙ (ap (λ l. l ++ filter (is_of_line line) behind) none ∙ rest) | false ↦ rest ]

-- what a task took
taken_at : (place : ℕ) (tasks : List Task) (task : Task)
    → get_or (taken_by tasks) place (record { class = task.worker; value = task.line }) ≡ record { class = (get_or tasks place task).worker; value = (get_or tasks place task).line }
taken_at place [] task = refl
taken_at zero (first ∷ tasks) task = refl
taken_at (suc place) (first ∷ tasks) task = taken_at place tasks task

taken_within : (place : ℕ) (tasks : List Task) → place < length tasks → suc place < suc (length (taken_by tasks))
taken_within place [] within = absurd (omega (arith, within))
taken_within zero (first ∷ tasks) within = omega arith
taken_within (suc place) (first ∷ tasks) within = let rest = taken_within place tasks (omega (arith, within)) in omega (arith, rest)

-- what a task writes of its line, among what all write
written_at : (part place : ℕ) (tasks : List Task) (events : List (List Event)) (task : Task) → NoneTwice (taken_by tasks) → AllZip IsTaskOf tasks events → place < length tasks
    → get_or tasks place task ≡ task
    → filter (is_of_line task.line) (written_by task.worker part tasks events) ≡ going_to part task.operations (get_or events place [])
written_at part place [] events task once calls within is = absurd (omega (arith, within))
written_at part place (first ∷ tasks) [] task once calls within is = absurd calls
written_at part zero (first ∷ tasks) (own ∷ others) task once calls within is =
    let going = going_to part first.operations own in
    let behind = written_by first.worker part tasks others in
    let none = written_others first.line first.worker part tasks others (pairs_head Apart (record { class = first.worker; value = first.line }) (taken_by tasks) once) calls.1 in
    let P : Task → Type 0 = λ t. filter (is_of_line t.line) (written_by t.worker part (first ∷ tasks) (own ∷ others)) ≡ going_to part t.operations own in
    subst P is
    (ap (filter (is_of_line first.line)) (cond-true (eqb first.worker first.worker) (going ++ behind) behind (eq-eqb first.worker first.worker refl))
    ∙ (filter_joined (is_of_line first.line) going behind
    ∙ (ap (λ l. l ++ filter (is_of_line first.line) behind) (going_own first.line 0 part first.operations own calls.0) ∙ (ap (λ l. going ++ l) none ∙ append-nil going))))
written_at part (suc place) (first ∷ tasks) (own ∷ others) task once calls within is =
    let rest = written_at part place tasks others task (pairs_tail Apart (record { class = first.worker; value = first.line }) (taken_by tasks) once) calls.1 (omega (arith, within)) is in
    let going = going_to part first.operations own in
    let behind = written_by task.worker part tasks others in
    let apart : first.line ≡ task.line → ⊥ = λ same. once 0 (suc place) (record { class = task.worker; value = task.line }) (omega arith) (taken_within place tasks (omega (arith, within)))
    (same ∙ sym (ap (λ (v : Valued). v.value) (taken_at place tasks task) ∙ ap (λ (t : Task). t.line) is)) in
    let none = going_other first.line task.line 0 part first.operations own apart calls.0 in
    elim (eqb first.worker task.worker) as (λ b. filter (is_of_line task.line) (cond b (going ++ behind) behind) ≡ going_to part task.operations (get_or others place []))
    [ true ↦ filter_joined (is_of_line task.line) going behind ∙ (ap (λ l. l ++ filter (is_of_line task.line) behind) none ∙ rest) | false ↦ rest ]

-- the worker of a line that was taken once
class_at : (place : ℕ) (tasks : List Task) (task : Task) → NoneTwice (taken_by tasks) → place < length tasks → get_or tasks place task ≡ task → class_of task.line (taken_by tasks) ≡ Some task.worker
class_at place [] task once within is = absurd (omega (arith, within))
class_at zero (first ∷ tasks) task once within is =
    cond-true (eqb first.line task.line) (Some first.worker) (class_of task.line (taken_by tasks)) (eq-eqb first.line task.line (ap (λ (t : Task). t.line) is)) ∙ ap (λ (t : Task). Some t.worker) is
class_at (suc place) (first ∷ tasks) task once within is =
    ⊎_elim
    (λ (same : first.line ≡ task.line). absurd (once 0 (suc place) (record { class = task.worker; value = task.line }) (omega arith) (taken_within place tasks (omega (arith, within)))
    (same ∙ sym (ap (λ (v : Valued). v.value) (taken_at place tasks task) ∙ ap (λ (t : Task). t.line) is))))
    (λ (apart : first.line ≡ task.line → ⊥).
    cond-false (eqb first.line task.line) (Some first.worker) (class_of task.line (taken_by tasks)) (ne_eqb first.line task.line apart)
    ∙ class_at place tasks task (pairs_tail Apart (record { class = first.worker; value = first.line }) (taken_by tasks) once) (omega (arith, within)) is)
    (cases_eq first.line task.line)

pub each_line : EachLineStands
each_line lines workers tasks histories events place part task ordered within is below in_parts =
    let history = get_or histories part [] in
    let own : Event → Bool = λ event. is_of task.worker (class_of (tag_of event).line (taken_by tasks)) in
    let class = class_at place tasks task ordered.shared_out.once within is in
    let inside : (event : Event) → is_of_line task.line event ≡ true → own event ≡ true =
    λ event same.
    ap (λ n. is_of task.worker (class_of n (taken_by tasks))) (eqb-true (tag_of event).line task.line same)
    ∙ (ap (is_of task.worker) class ∙ eq-eqb task.worker task.worker refl) in
    sym (filter_within (is_of_line task.line) own history inside)
    ∙ (ap (filter (is_of_line task.line)) (ordered.in_order task.worker part below in_parts)
    ∙ written_at part place tasks events task ordered.shared_out.once ordered.calls within is)
