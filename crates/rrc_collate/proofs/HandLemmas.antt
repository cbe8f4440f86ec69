-- SPDX-License-Identifier: MIT
-- hands of queues, as the lists that contracts see
use Rattle.std.proofs.Common.{◌≡◌, ℕ, ◌+◌, ◌<◌, ◌≤◌, List, [], ◌∷◌, ◌++◌, length, get_or, set, map, drop, take, replicate, zero, suc, refl, sym, ◌∙◌, ap, subst, arith, ⊎_elim}
use Rattle.std.specs.Prelude.{filter, slice_get, Bool, true, false, cond, Some}
use Rattle.std.specs.List.{All, AllZip}
use Rattle.std.proofs.lemmas.Bool.{cases_eq, eq-eqb, ne_eqb, cond-true, cond-false}
use Rattle.std.proofs.lemmas.Option.{slice_get-get_or}
use Rattle.std.proofs.lemmas.List.{map-set, map-append, length-map, length-set, get_or-set_same, get_or-set_other, replicate_more, take_all}
use Rattle.std.proofs.lemmas.List.Elements.{All-push, All-more}
use Rattle.rrc_history.specs.declared.event.Event.{Event}
use Rattle.rrc_collate.specs.Calls.{tag_of}
use Rattle.rrc_collate.specs.Hands.{AreNamed, AreDealt, is_of}

-- the lists of some queues, whose values are borrowed
abbrev pub shown : {Q B E : Type 0} → (Q → List B) → (B → E) → List Q → List (List E)
shown items now hands = map (λ hand. map now (items hand)) hands

map_read : {Q E : Type 0} (f : Q → List E) (hands : List Q) (i : ℕ) (hand : Q) → i < length hands → hand ≡ get_or hands i hand → get_or (map f hands) i [] ≡ f hand
map_read f [] i hand within read = absurd (omega arith)
map_read f (first ∷ behind) zero hand within read = ap f (sym read)
map_read f (first ∷ behind) (suc i) hand within read = map_read f behind i hand (omega arith) read

map_drop : {B E : Type 0} (f : B → E) (xs : List B) → map f (drop 1 xs) ≡ drop 1 (map f xs)
map_drop f [] = refl
map_drop f (x ∷ xs) = refl

pub shown_put : {Q : Type 0} {B : Type 0} {E : Type 0} (items : Q → List B) (now : B → E) (hands : List Q) (view : List (List E)) (i : ℕ) (old new : Q) (b : B)
    → shown items now hands ≡ view → i < length view → old ≡ get_or hands i old → items new ≡ items old ++ b ∷ []
    → shown items now (set hands i new) ≡ set view i (get_or view i [] ++ now b ∷ [])
shown_put {Q} {B} {E} items now hands view i old new b is within read pushed =
    let f : Q → List E = λ hand. map now (items hand) in
    let here : i < length hands = let size = length-map hands f in let same = ap length is in omega (arith, size, same, within) in
    let value : f new ≡ get_or view i [] ++ now b ∷ [] =
    ap (map now) pushed ∙ (map-append now (items old) (b ∷ []) ∙ ap (λ l. l ++ now b ∷ []) (sym (map_read f hands i old here read) ∙ ap (λ v. get_or v i []) is)) in
    map-set f hands i new ∙ (ap (λ v. set v i (f new)) is ∙ ap (λ l. set view i l) value)

pub shown_taken : {Q : Type 0} {B : Type 0} {E : Type 0} (items : Q → List B) (now : B → E) (hands : List Q) (view : List (List E)) (i : ℕ) (old new : Q)
    → shown items now hands ≡ view → i < length view → old ≡ get_or hands i old → items new ≡ drop 1 (items old)
    → shown items now (set hands i new) ≡ set view i (drop 1 (get_or view i []))
shown_taken {Q} {B} {E} items now hands view i old new is within read taken =
    let f : Q → List E = λ hand. map now (items hand) in
    let here : i < length hands = let size = length-map hands f in let same = ap length is in omega (arith, size, same, within) in
    let value : f new ≡ drop 1 (get_or view i []) =
    ap (map now) taken ∙ (map_drop now (items old) ∙ ap (drop 1) (sym (map_read f hands i old here read) ∙ ap (λ v. get_or v i []) is)) in
    map-set f hands i new ∙ (ap (λ v. set v i (f new)) is ∙ ap (λ l. set view i l) value)

pub shown_more : {Q : Type 0} {B : Type 0} {E : Type 0} (items : Q → List B) (now : B → E) (hands : List Q) (n : ℕ) (new : Q) → shown items now hands ≡ replicate n [] → items new ≡ []
    → shown items now (hands ++ new ∷ []) ≡ replicate (n + 1) []
shown_more {Q} {B} {E} items now hands n new are empty =
    let f : Q → List E = λ hand. map now (items hand) in
    map-append f hands (new ∷ []) ∙ (ap (λ l. map f hands ++ l ∷ []) (ap (map now) empty) ∙ (ap (λ l. l ++ [] ∷ []) are ∙ replicate_more n []))

pub filter_yes : {X : Type 0} (p : X → Bool) (xs : List X) (x : X) → p x ≡ true → filter p (xs ++ x ∷ []) ≡ filter p xs ++ x ∷ []
filter_yes p [] x passes = cond-true (p x) (x ∷ []) [] passes
filter_yes p (y ∷ ys) x passes =
    let rest = filter_yes p ys x passes in
    elim (p y) as (λ b. cond b (y ∷ filter p (ys ++ x ∷ [])) (filter p (ys ++ x ∷ [])) ≡ cond b (y ∷ filter p ys) (filter p ys) ++ x ∷ [])
    [ true ↦ ap (λ l. y ∷ l) rest | false ↦ rest ]

pub filter_no : {X : Type 0} (p : X → Bool) (xs : List X) (x : X) → p x ≡ false → filter p (xs ++ x ∷ []) ≡ filter p xs
filter_no p [] x fails = cond-false (p x) (x ∷ []) [] fails
filter_no p (y ∷ ys) x fails = let rest = filter_no p ys x fails in ap (λ l. cond (p y) (y ∷ l) l) rest

-- one event more, whose line has an owner
pub dealt_more : (workers : ℕ) (owners : List ℕ) (events : List Event) (hands dealt : List (List Event)) (event : Event) (line : ℕ) → All (λ owner. owner < workers) owners
    → line ≡ (tag_of event).line → line < length owners → AreDealt workers owners events hands
    → dealt ≡ set hands (get_or owners line 0) (get_or hands (get_or owners line 0) [] ++ event ∷ [])
    → AreDealt workers owners (events ++ event ∷ []) dealt
dealt_more workers owners events hands dealt event line below is_line within are put =
    let owner = get_or owners line 0 in
    let hand = get_or hands owner [] ++ event ∷ [] in
    let owned : slice_get owners (tag_of event).line ≡ Some owner = ap (slice_get owners) (sym is_line) ∙ slice_get-get_or owners line 0 within in
    let is_below : owner < workers = below line 0 within in
    let size = are.size in
    let here : owner < length hands = omega (arith, size, is_below) in
    record {
      size = ap length put ∙ (length-set hands owner hand ∙ size);
      each = λ worker is_worker.
          let p : Event → Bool = λ other. is_of worker (slice_get owners (tag_of other).line) in
          ⊎_elim
          (λ (same : worker ≡ owner).
          let passes : p event ≡ true = ap (is_of worker) owned ∙ eq-eqb owner worker (sym same) in
          ap (λ (l : List (List Event)). get_or l worker []) put
          ∙ (ap (λ k. get_or (set hands owner hand) k []) same
          ∙ (get_or-set_same hands owner hand [] here
          ∙ (ap (λ k. get_or hands k [] ++ event ∷ []) (sym same) ∙ (ap (λ l. l ++ event ∷ []) (are.each worker is_worker) ∙ sym (filter_yes p events event passes))))))
          (λ (other : worker ≡ owner → ⊥).
          let fails : p event ≡ false = ap (is_of worker) owned ∙ ne_eqb owner worker (λ same. other (sym same)) in
          ap (λ (l : List (List Event)). get_or l worker []) put
          ∙ (get_or-set_other hands owner worker hand [] other ∙ (are.each worker is_worker ∙ sym (filter_no p events event fails))))
          (cases_eq worker owner);
    }

pub named_more : (lines : ℕ) (events : List Event) (event : Event) (line : ℕ) → line ≡ (tag_of event).line → line < lines → AreNamed lines events → AreNamed lines (events ++ event ∷ [])
named_more lines events event line is_line within named = All-push (λ (event : Event). (tag_of event).line < lines) events event named (subst (λ n. n < lines) is_line within)

pub shown_push : {Q : Type 0} {B : Type 0} {E : Type 0} (items : Q → List B) (now : B → E) (hands more : List Q) (hand : Q) → more ≡ hands ++ hand ∷ []
    → shown items now more ≡ shown items now hands ++ map now (items hand) ∷ []
shown_push {Q} {B} {E} items now hands more hand is =
    let f : Q → List E = λ hand. map now (items hand) in
    ap (map f) is ∙ map-append f hands (hand ∷ [])

-- whether hands are empty, of which those so far are
pub empty_here : {Q : Type 0} {B : Type 0} {E : Type 0} (items : Q → List B) (now : B → E) (hands : List Q) (view : List (List E)) (i : ℕ) (hand : Q)
    → shown items now hands ≡ view → i < length hands → hand ≡ get_or hands i hand → items hand ≡ [] → All (λ (l : List E). l ≡ []) (take i view) → All (λ (l : List E). l ≡ []) (take (i + 1) view)
empty_here {Q} {B} {E} items now hands view i hand is within read empty so_far =
    let f : Q → List E = λ hand. map now (items hand) in
    let size : i < length view = let a = length-map hands f in let b = ap length is in omega (arith, a, b, within) in
    let here : get_or view i [] ≡ [] = ap (λ v. get_or v i []) (sym is) ∙ (map_read f hands i hand within read ∙ ap (map now) empty) in
    All-more (λ (l : List E). l ≡ []) view i [] size so_far here

map_nil : {B : Type 0} {E : Type 0} (f : B → E) (xs : List B) → map f xs ≡ [] → xs ≡ []
map_nil f [] none = refl
map_nil f (x ∷ xs) none = absurd cc

pub not_empty_here : {Q : Type 0} {B : Type 0} {E : Type 0} (items : Q → List B) (now : B → E) (hands : List Q) (view : List (List E)) (i : ℕ) (hand : Q)
    → shown items now hands ≡ view → i < length hands → hand ≡ get_or hands i hand → (items hand ≡ [] → ⊥) → All (λ (l : List E). l ≡ []) view → ⊥
not_empty_here {Q} {B} {E} items now hands view i hand is within read not_empty empty =
    let f : Q → List E = λ hand. map now (items hand) in
    let size : i < length view = let a = length-map hands f in let b = ap length is in omega (arith, a, b, within) in
    not_empty (map_nil now (items hand) (sym (ap (λ v. get_or v i []) (sym is) ∙ map_read f hands i hand within read) ∙ empty i [] size))

pub all_empty : {Q : Type 0} {B : Type 0} {E : Type 0} (items : Q → List B) (now : B → E) (hands : List Q) (view : List (List E)) (i : ℕ) → shown items now hands ≡ view
    → length hands ≤ i → All (λ (l : List E). l ≡ []) (take i view) → All (λ (l : List E). l ≡ []) view
all_empty {Q} {B} {E} items now hands view i is behind so_far =
    let f : Q → List E = λ hand. map now (items hand) in
    let size : length view ≤ i = let a = length-map hands f in let b = ap length is in omega (arith, a, b, behind) in
    subst (λ v. All (λ (l : List E). l ≡ []) v) (take_all i view size) so_far

pub zip_push : {A B : Type 0} (R : A → B → Type 0) (xs : List A) (ys : List B) (x : A) (y : B) → AllZip R xs ys → R x y → AllZip R (xs ++ x ∷ []) (ys ++ y ∷ [])
zip_push R [] [] x y all last = (last, tt)
zip_push R [] (z ∷ zs) x y all last = absurd all
zip_push R (z ∷ zs) [] x y all last = absurd all
zip_push R (w ∷ ws) (z ∷ zs) x y all last = (all.0, zip_push R ws zs x y all.1 last)
