-- SPDX-License-Identifier: MIT
-- what is written into the parts, and the hands that are dealt from them
use Rattle.std.proofs.Common.{◌≡◌, ℕ, ◌<◌, ◌≤◌, true, false, cond, eqb, List, [], ◌∷◌, ◌++◌, length, get_or, take, drop, zero, suc, refl, sym, ◌∙◌, ap, subst, ⊎_elim, arith}
use Rattle.std.specs.List.{All, AllZip}
use Rattle.std.proofs.lemmas.Bool.{cases_lt, cond-false, ne_eqb}
use Rattle.std.proofs.lemmas.List.{append-nil, get_or_past, get_or_default, length-map, drop_all, take_all}
use Rattle.std.proofs.lemmas.List.Elements.{All-nil, All-cons, All-head, All-tail, All-map}
use Rattle.rrc_history.specs.declared.event.Event.{Event}
use Rattle.rrc_history.specs.declared.chains.Whole.{Whole}
use Rattle.rrc_collate.specs.declared.task.Task.{Task}
use Rattle.rrc_collate.specs.declared.script.Operation.{Operation}
use Rattle.rrc_collate.specs.Calls.{going_to}
use Rattle.rrc_collate.specs.Hands.{AreNamed, AreDealt}
use Rattle.rrc_collate.specs.Draws.{hand_of}
use Rattle.rrc_collate.specs.Tasks.{written_by, AllFit, AreDone, AreOnlyDone}
use Rattle.rrc_collate.specs.Collated.{AreWritten, histories_of}

pub zip_at : {A B : Type 0} (R : A → B → Type 0) (xs : List A) (ys : List B) (i : ℕ) (d : A) (e : B) → AllZip R xs ys → i < length xs → R (get_or xs i d) (get_or ys i e)
zip_at R [] ys i d e all within = absurd (omega (arith, within))
zip_at R (x ∷ xs) [] i d e all within = absurd all
zip_at R (x ∷ xs) (y ∷ ys) zero d e all within = all.0
zip_at R (x ∷ xs) (y ∷ ys) (suc i) d e all within = zip_at R xs ys i d e all.1 (omega (arith, within))

pub zip_size : {A B : Type 0} (R : A → B → Type 0) (xs : List A) (ys : List B) → AllZip R xs ys → length ys ≡ length xs
zip_size R [] [] all = refl
zip_size R [] (y ∷ ys) all = absurd all
zip_size R (x ∷ xs) [] all = absurd all
zip_size R (x ∷ xs) (y ∷ ys) all = let rest = zip_size R xs ys all.1 in omega (arith, rest)

pub zip_histories : (R : List Event → List (List Event) → Type 0) (wholes : List Whole) (parts : List (List (List Event)))
    → AllZip (λ (whole : Whole) (hands : List (List Event)). R whole.events hands) wholes parts → AllZip R (histories_of wholes) parts
zip_histories R [] [] all = tt
zip_histories R [] (hands ∷ parts) all = absurd all
zip_histories R (whole ∷ wholes) [] all = absurd all
zip_histories R (whole ∷ wholes) (hands ∷ parts) all = (all.0, zip_histories R wholes parts all.1)

abbrev pub IsBelow : ℕ → Task → Type 0
IsBelow workers task = task.worker < workers

abbrev pub GoesBelow : ℕ → Task → Type 0
GoesBelow parts task = All (λ operation. operation.part < parts) task.operations

abbrev GoesTo : ℕ → Operation → Type 0
GoesTo parts operation = operation.part < parts

going_nowhere : (parts part : ℕ) (operations : List Operation) (events : List Event) → All (λ operation. operation.part < parts) operations → parts ≤ part
    → going_to part operations events ≡ []
going_nowhere parts part [] events below behind = refl
going_nowhere parts part (operation ∷ operations) [] below behind = refl
going_nowhere parts part (operation ∷ operations) (event ∷ events) below behind =
    let first = All-head (GoesTo parts) operation operations below in
    cond-false (eqb operation.part part) (event ∷ going_to part operations events) (going_to part operations events) (ne_eqb operation.part part (λ same. omega (arith, first, behind, same)))
    ∙ going_nowhere parts part operations events (All-tail (GoesTo parts) operation operations below) behind

-- no part and no worker but those that there are
nothing_behind : (parts worker part : ℕ) (tasks : List Task) (events : List (List Event)) → All (GoesBelow parts) tasks → parts ≤ part → written_by worker part tasks events ≡ []
nothing_behind parts worker part [] events below behind = refl
nothing_behind parts worker part (task ∷ tasks) [] below behind = refl
nothing_behind parts worker part (task ∷ tasks) (own ∷ others) below behind =
    let rest = nothing_behind parts worker part tasks others (All-tail (GoesBelow parts) task tasks below) behind in
    let none = going_nowhere parts part task.operations own (All-head (GoesBelow parts) task tasks below) behind in
    elim (eqb task.worker worker) as (λ b. cond b (going_to part task.operations own ++ written_by worker part tasks others) (written_by worker part tasks others) ≡ [])
    [ true ↦ ap (λ l. l ++ written_by worker part tasks others) none ∙ rest | false ↦ rest ]

nobody_behind : (workers worker part : ℕ) (tasks : List Task) (events : List (List Event)) → All (IsBelow workers) tasks → workers ≤ worker → written_by worker part tasks events ≡ []
nobody_behind workers worker part [] events below behind = refl
nobody_behind workers worker part (task ∷ tasks) [] below behind = refl
nobody_behind workers worker part (task ∷ tasks) (own ∷ others) below behind =
    let first = All-head (IsBelow workers) task tasks below in
    cond-false (eqb task.worker worker) (going_to part task.operations own ++ written_by worker part tasks others) (written_by worker part tasks others)
    (ne_eqb task.worker worker (λ same. omega (arith, first, behind, same)))
    ∙ nobody_behind workers worker part tasks others (All-tail (IsBelow workers) task tasks below) behind

abbrev pub Dealt : ℕ → List ℕ → List Event → List (List Event) → Type 0
Dealt workers owners history hands = AreDealt workers owners history hands

-- what is written fits the hands, and leaves nothing
pub written_fits : (workers : ℕ) (owners : List ℕ) (tasks : List Task) (histories events : List (List Event)) (parts : List (List (List Event)))
    → AllZip (Dealt workers owners) histories parts → All (IsBelow workers) tasks → All (GoesBelow (length histories)) tasks
    → AreWritten workers owners tasks histories events → AllFit parts tasks events (λ part worker. [])
written_fits workers owners tasks histories events parts dealt workers_below parts_below written = record {
  calls = written.calls;
  own = λ part worker.
      sym (append-nil (written_by worker part tasks events) ∙
      ⊎_elim
      (λ (in_parts : part < length histories).
      let hands = zip_at (Dealt workers owners) histories parts part [] [] dealt in_parts in
      ⊎_elim
      (λ (in_workers : worker < workers). sym (written.in_order worker part in_workers in_parts) ∙ sym (hands.each worker in_workers))
      (λ (behind : workers ≤ worker).
      nobody_behind workers worker part tasks events workers_below behind
      ∙ sym (get_or_past (get_or parts part []) worker [] (let size = hands.size in omega (arith, size, behind))))
      (cases_lt worker workers))
      (λ (behind : length histories ≤ part).
      let size = zip_size (Dealt workers owners) histories parts dealt in
      nothing_behind (length histories) worker part tasks events parts_below behind
      ∙ sym (ap (λ (hands : List (List Event)). get_or hands worker []) (get_or_past parts part [] (omega (arith, size, behind)))))
      (cases_lt part (length histories)));
}

abbrev pub IsNothing : List Event → Type 0
IsNothing hand = hand ≡ []

abbrev pub AreNothing : List (List Event) → Type 0
AreNothing hands = All (λ hand. hand ≡ []) hands

pub hand_empty : (parts : List (List (List Event))) (part worker : ℕ) → All AreNothing parts → hand_of parts part worker ≡ []
hand_empty parts part worker empty =
    ⊎_elim
    (λ (in_parts : part < length parts).
    ⊎_elim
    (λ (within : worker < length (get_or parts part [])). empty part [] in_parts worker [] within)
    (λ (behind : length (get_or parts part []) ≤ worker). get_or_past (get_or parts part []) worker [] behind)
    (cases_lt worker (length (get_or parts part []))))
    (λ (behind : length parts ≤ part). ap (λ (hands : List (List Event)). get_or hands worker []) (get_or_past parts part [] behind))
    (cases_lt part (length parts))

pub hands_empty : (parts : List (List (List Event))) → ((part worker : ℕ) → hand_of parts part worker ≡ []) → All AreNothing parts
hands_empty parts empty part d in_parts worker e within =
    let same = get_or_default parts part d [] in_parts in
    let here : worker < length (get_or parts part []) = let sizes = ap (λ (l : List (List Event)). length l) same in omega (arith, within, sizes) in
    ap (λ (l : List (List Event)). get_or l worker e) same ∙ (get_or_default (get_or parts part []) worker e [] here ∙ empty part worker)

-- hands from which all was taken were what was written
pub fits_written : (workers : ℕ) (owners : List ℕ) (tasks : List Task) (histories events : List (List Event)) (parts left : List (List (List Event)))
    → AllZip (Dealt workers owners) histories parts → All (AreNamed (length owners)) histories → AreDone parts tasks events left → All AreNothing left
    → AreWritten workers owners tasks histories events
fits_written workers owners tasks histories events parts left dealt named done empty = record {
  named = named;
  calls = done.fit.calls;
  in_order = λ worker part in_workers in_parts.
      let hands = zip_at (Dealt workers owners) histories parts part [] [] dealt in_parts in
      sym (hands.each worker in_workers)
      ∙ (done.fit.own part worker ∙ (ap (λ l. written_by worker part tasks events ++ l) (hand_empty left part worker empty) ∙ append-nil (written_by worker part tasks events)));
}

-- each part has a hand for each worker
pub hands_sizes : (workers : ℕ) (owners : List ℕ) (histories : List (List Event)) (parts : List (List (List Event))) → AllZip (Dealt workers owners) histories parts
    → All (λ hands. length hands ≡ workers) parts
hands_sizes workers owners histories parts dealt part d within =
    let size = zip_size (Dealt workers owners) histories parts dealt in
    (zip_at (Dealt workers owners) histories parts part [] d dealt (omega (arith, size, within))).size

-- the parts are as many as the histories
pub parts_below : (workers : ℕ) (owners : List ℕ) (wholes : List Whole) (parts : List (List (List Event))) (tasks : List Task)
    → AllZip (Dealt workers owners) (histories_of wholes) parts → All (GoesBelow (length wholes)) tasks → (All (GoesBelow (length parts)) tasks) × (All (GoesBelow (length (histories_of wholes))) tasks)
parts_below workers owners wholes parts tasks dealt below =
    let events : Whole → List Event = λ whole. whole.events in
    let same : length (histories_of wholes) ≡ length wholes = length-map wholes events in
    let size : length parts ≡ length wholes = zip_size (Dealt workers owners) (histories_of wholes) parts dealt ∙ same in
    (subst (λ n. All (GoesBelow n) tasks) (sym size) below, subst (λ n. All (GoesBelow n) tasks) (sym same) below)

-- nothing is written where the hands have events left, and nothing else than what was done
pub only_written : (workers : ℕ) (owners : List ℕ) (wholes : List Whole) (tasks : List Task) (done others : List (List Event)) (parts left : List (List (List Event)))
    → AllZip (Dealt workers owners) (histories_of wholes) parts → All (IsBelow workers) tasks → All (GoesBelow (length wholes)) tasks → AreOnlyDone parts tasks done left
    → AreWritten workers owners tasks (histories_of wholes) others → (others ≡ done) × All AreNothing left
only_written workers owners wholes tasks done others parts left dealt workers_below below only written =
    let fit = written_fits workers owners tasks (histories_of wholes) others parts dealt workers_below (parts_below workers owners wholes parts tasks dealt below).1 written in
    let one = only others (λ part worker. []) fit in
    (one.0, hands_empty left one.1)

pub named_histories : (lines : ℕ) (wholes : List Whole) → All (λ whole. AreNamed lines whole.events) wholes → All (AreNamed lines) (histories_of wholes)
named_histories lines wholes named = let events : Whole → List Event = λ whole. whole.events in All-map (AreNamed lines) events wholes named

pub named_wholes : (lines : ℕ) (wholes : List Whole) → All (AreNamed lines) (histories_of wholes) → All (λ whole. AreNamed lines whole.events) wholes
named_wholes lines [] named = All-nil (λ (whole : Whole). AreNamed lines whole.events)
named_wholes lines (whole ∷ wholes) named =
    All-cons (λ (whole : Whole). AreNamed lines whole.events) whole wholes
    (All-head (AreNamed lines) whole.events (histories_of wholes) named) (named_wholes lines wholes (All-tail (AreNamed lines) whole.events (histories_of wholes) named))

-- a slice of all values of a vector, written back
pub written_back : {X : Type 0} (n : ℕ) (values items : List X) → length values ≡ n → length items ≡ n → take n (values ++ drop (length values) items) ≡ values
written_back n values items size as_many =
    ap (λ l. take n (values ++ l)) (drop_all (length values) items (omega (arith, size, as_many)))
    ∙ (ap (take n) (append-nil values) ∙ take_all n values (omega (arith, size)))
