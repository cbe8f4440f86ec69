-- SPDX-License-Identifier: MIT
-- The table of the answers of lines, one line more at a time.
use Rattle.std.proofs.Common.{◌≡◌, ◌≢◌, ℕ, zero, suc, ◌+◌, ◌<◌, List, [], ◌∷◌, ◌++◌, length, get_or, set, take, map, Some, refl, sym, ap, subst, ◌∙◌, arith}
use Rattle.std.specs.Prelude.{slice_get}
use Rattle.std.specs.List.{All, AllPairs, AllZip}
use Rattle.std.proofs.Math.ListN.{get_or-map as read_map}
use Rattle.std.proofs.lemmas.List.{get_or-map, length-map, length-append, map-append, take_more}
use Rattle.std.proofs.lemmas.List.Elements.{All-head, All-tail, All-map}
use Rattle.rrc_history.specs.declared.event.Event.{Event}
use Rattle.rrc_trace.specs.declared.answer.Answer.{Answer}
use Rattle.rrc_collate.specs.declared.valued.Valued.{Valued}
use Rattle.rrc_collate.specs.Words.{NoneTwice, AllBelow}
use Rattle.rrc_report.specs.declared.done.Answered.{Answered}
use Rattle.rrc_report.specs.declared.done.Done.{Done}
use Rattle.rrc_report.specs.Answers.{Completes}
use Rattle.rrc_report.specs.AnswerTable.{answered_by, StandsIn, AreIn, IsMissed}
use Rattle.rrc_report.specs.Steps.{Given, given_by, given_from, as_taken, StandsComplete, AreComplete}
use Rattle.rrc_report.proofs.Completed.{as_answered}
use Rattle.rrc_report.proofs.Zips.{zip_push, zip_at, all_right, all_unmap, pairs_before}

-- ---- a place is filled

set_other : {X : Type 0} (xs : List X) (i j : ℕ) (x : X) → (j ≡ i → ⊥) → slice_get (set xs i x) j ≡ slice_get xs j
set_other [] i j x other = refl
set_other (y ∷ ys) zero zero x other = absurd (other refl)
set_other (y ∷ ys) zero (suc j) x other = refl
set_other (y ∷ ys) (suc i) zero x other = refl
set_other (y ∷ ys) (suc i) (suc j) x other = set_other ys i j x (λ same. other (ap suc same))

set_same : {X : Type 0} (xs : List X) (i : ℕ) (x : X) → i < length xs → slice_get (set xs i x) i ≡ Some x
set_same [] i x within = absurd (omega (arith, within))
set_same (y ∷ ys) zero x within = refl
set_same (y ∷ ys) (suc i) x within = set_same ys i x (omega (arith, within))

-- the answers of other lines stay
others_stay : (table : List Answer) (line : ℕ) (answer : Answer) (given : List Answered) (events : List (List Event)) → All (λ one. one.line ≢ line) given
    → AreIn table given events → AreIn (set table line answer) given events
others_stay table line answer [] [] other are = tt
others_stay table line answer [] (own ∷ events) other are = absurd are
others_stay table line answer (one ∷ given) [] other are = absurd are
others_stay table line answer (one ∷ given) (own ∷ events) other are = (
  record {
    answer = are.0.answer;
    found = set_other table line one.line answer (All-head (λ one. one.line ≢ line) one given other) ∙ are.0.found;
    completes = are.0.completes;
  },
  others_stay table line answer given events (All-tail (λ one. one.line ≢ line) one given other) are.1,
)

in_more : (table : List Answer) (given : List Answered) (events : List (List Event)) (one : Answered) (own : List Event) (answer : Answer) → AreIn table given events
    → All (λ other. other.line ≢ one.line) given → one.line < length table → Completes one.answer answer own
    → AreIn (set table one.line answer) (given ++ one ∷ []) (events ++ own ∷ [])
in_more table given events one own answer are other within completes =
    zip_push (StandsIn (set table one.line answer)) given events one own (others_stay table one.line answer given events other are)
    (record { answer = answer; found = set_same table one.line answer within; completes = completes })

-- one line more, of which the events are told by what points to them
pub fill_more : {Q B : Type 0} (items : Q → List B) (now : B → Event) (table : List Answer) (count : ℕ) (before : List Answered) (one : Answered) (behind given : List Answered)
    (events : List Q) (place : ℕ) (own : Q) (answer : Answer) → All (λ one. one.line < count) given → AllPairs (λ earlier later. earlier.line ≢ later.line) given
    → length events ≡ length given → length table ≡ count → before ++ one ∷ behind ≡ given → place ≡ length before → own ≡ get_or events place own
    → AreIn table before (take place (map (λ own. map now (items own)) events)) → Completes one.answer answer (map now (items own))
    → AreIn (set table one.line answer) (before ++ one ∷ []) (take (place + 1) (map (λ own. map now (items own)) events))
fill_more {Q} {B} items now table count before one behind given events place own answer below once size room are at own_is so_far completes =
    let f : Q → List Event = λ own. map now (items own) in
    let line : one.line < count = All-head (λ one. one.line < count) one behind (all_right (λ one. one.line < count) before (one ∷ behind) (subst (All (λ one. one.line < count)) (sym are) below)) in
    let apart = pairs_before (λ earlier later. earlier.line ≢ later.line) before one behind (subst (AllPairs (λ earlier later. earlier.line ≢ later.line)) (sym are) once) in
    let long : length given ≡ length before + length (one ∷ behind) = ap length (sym are) ∙ length-append before (one ∷ behind) in
    let within : place < length events = omega (arith, long, size, at) in
    let also : place < length (map f events) = let m = length-map events f in omega (arith, within, m) in
    let more : take (place + 1) (map f events) ≡ take place (map f events) ++ f own ∷ [] =
    take_more (map f events) place (f own) also ∙ ap (λ e. take place (map f events) ++ e ∷ []) (get_or-map f events place own (f own) within ∙ ap f (sym own_is)) in
    subst (AreIn (set table one.line answer) (before ++ one ∷ [])) (sym more)
    (in_more table before (take place (map f events)) one (f own) answer so_far apart (omega (arith, line, room)) completes)

-- ---- what workers say that they did, with the worker and without

unmapped : (worker : ℕ) (answers : List Answered) → map as_answered (map (given_by worker) answers) ≡ answers
unmapped worker [] = refl
unmapped worker (one ∷ answers) = ap (λ l. one ∷ l) (unmapped worker answers)

pub bare : (worker : ℕ) (done : List Done) → map as_answered (given_from worker done) ≡ answered_by done
bare worker [] = refl
bare worker (one ∷ done) =
    map-append as_answered (map (given_by worker) one.answers) (given_from (worker + 1) done)
    ∙ (λ i. unmapped worker one.answers i ++ bare (worker + 1) done i)

pub lines_below : (count : ℕ) (given : List Given) → AllBelow count (map as_taken given) → All (λ one. one.line < count) (map as_answered given)
lines_below count given below =
    All-map (λ one. one.line < count) as_answered given (all_unmap (λ valued. valued.value < count) as_taken given below)

line_read : (given : List Given) (i : ℕ) (d : Answered)
    → (get_or (map as_answered given) i d).line ≡ (get_or (map as_taken given) i (as_taken (record { worker = 0; line = d.line; answer = d.answer }))).value
line_read given i d =
    let one : Given = record { worker = 0; line = d.line; answer = d.answer } in
    ap (λ (a : Answered). a.line) (read_map as_answered given i one) ∙ sym (ap (λ (v : Valued). v.value) (read_map as_taken given i one))

pub lines_once : (given : List Given) → NoneTwice (map as_taken given) → AllPairs (λ earlier later. earlier.line ≢ later.line) (map as_answered given)
lines_once given once i j d below within same =
    let one : Given = record { worker = 0; line = d.line; answer = d.answer } in
    let a = length-map given as_answered in
    let b = length-map given as_taken in
    let also : j < length (map as_taken given) = omega (arith, within, a, b) in
    once i j (as_taken one) below also (sym (line_read given i d) ∙ (same ∙ line_read given j d))

-- ---- the table once all lines were done

all_stand : (answers : List Answer) (given : List Given) (events : List (List Event)) → AreIn answers (map as_answered given) events → AllZip (StandsComplete answers) given events
all_stand answers [] [] are = tt
all_stand answers [] (own ∷ events) are = absurd are
all_stand answers (one ∷ given) [] are = absurd are
all_stand answers (one ∷ given) (own ∷ events) are =
    (record { answer = are.0.answer; answer_is = are.0.found; completes = are.0.completes }, all_stand answers given events are.1)

pub all_complete : (count : ℕ) (answers : List Answer) (given : List Given) (events : List (List Event)) → length answers ≡ count → AreIn answers (map as_answered given) events
    → AreComplete count given events answers
all_complete count answers given events size are = record { size = size; each = all_stand answers given events are }

-- where the events of a line complete no answer there are none
pub none_complete : (count : ℕ) (given : List Given) (events : List (List Event)) (answers : List Answer) → IsMissed (map as_answered given) events
    → AreComplete count given events answers → ⊥
none_complete count given events answers missed are =
    let one : Given = record { worker = 0; line = missed.one.line; answer = missed.one.answer } in
    let there = missed.within in
    let size = length-map given as_answered in
    let within : missed.place < length given = omega (arith, there, size) in
    let stands = zip_at (StandsComplete answers) given events missed.place one [] are.each within in
    let is : as_answered (get_or given missed.place one) ≡ missed.one = sym (read_map as_answered given missed.place one) ∙ missed.is in
    let P : Answered → Type 0 = λ a. Completes a.answer stands.answer (get_or events missed.place []) in
    missed.none stands.answer (subst P is stands.completes)
