-- SPDX-License-Identifier: MIT
-- What a list keeps of an earlier one, and what stands in front of it.
use Rattle.std.specs.Prelude.{◌≡◌, ℕ, zero, suc, ◌+◌, ◌<◌, Bool, true, false, not, ◌||◌, ◌==◌, cond, Option, Some, None, IsSome, List, [], ◌∷◌, ◌++◌, length, take, slice_get}
use Rattle.std.proofs.Common.{refl, arith, sym, ap, subst, ◌∙◌, get_or}
use Rattle.std.specs.List.{list_any, cons_option}
use Rattle.std.specs.Cmp.{nat_eq_equiv}
use Rattle.std.proofs.Math.Seq.{take-append_seam, take-length}
use Rattle.std.proofs.lemmas.List.{append-nil}
use Rattle.std.proofs.lemmas.List.Elements.{filter-append, filter_agree, filter_map-append}
use Rattle.rrc_history.specs.declared.snapshot.Entry.{Entry}
use Rattle.rrc_history.specs.declared.entry_list.Place.{Place}
use Rattle.rrc_history.specs.EntryLists.{entry_in, entries_at, AreFilled, has_number, without, stays, places_staying}
use Rattle.rrc_history.proofs.Places.{kept_outer, StayIn, same_entries, same_filled}

-- ---- numbers

-- a set's test of a number is the word of the definitions
pub is_among : (numbers : List ℕ) (entry : Entry) → has_number numbers entry ≡ list_any (λ number. entry.number == number) numbers
is_among [] entry = refl
is_among (number ∷ numbers) entry =
    ap (λ (same : Bool). same || has_number numbers entry) (nat_eq_equiv.symm number entry.number) ∙ ap (λ (among : Bool). (entry.number == number) || among) (is_among numbers entry)

-- lists of numbers that hold the same leave the same
pub left_alike : (numbers others : List ℕ) (entries : List Entry) → ((entry : Entry) → has_number numbers entry ≡ has_number others entry) → without numbers entries ≡ without others entries
left_alike numbers others entries alike =
    filter_agree (λ (e : Entry). not (has_number numbers e)) (λ (e : Entry). not (has_number others e)) (λ e. ap not (alike e)) entries

-- ---- places that stay

one_stays : (numbers : List ℕ) (batches : List (List Entry)) (place : Place) (places : List Place) (found : Option Entry) → entry_in batches place ≡ found
    → entries_at batches (places_staying numbers batches places) ≡ without numbers (entries_at batches places)
    → entries_at batches (cond (stays numbers found) (place ∷ places_staying numbers batches places) (places_staying numbers batches places)) ≡ without numbers (cons_option found (entries_at batches places))
one_stays numbers batches place places None is rest = rest
one_stays numbers batches place places (Some entry) is rest = by (has_number numbers entry) refl
  where
    by : (gone : Bool) → has_number numbers entry ≡ gone
        → entries_at batches (cond (not (has_number numbers entry)) (place ∷ places_staying numbers batches places) (places_staying numbers batches places)) ≡ without numbers (entry ∷ entries_at batches places)
    by true has = rw has rest
    by false has = rw has (ap (λ found. cons_option found (entries_at batches (places_staying numbers batches places))) is ∙ ap (λ es. entry ∷ es) rest)

pub staying_entries : (numbers : List ℕ) (batches : List (List Entry)) (places : List Place) → entries_at batches (places_staying numbers batches places) ≡ without numbers (entries_at batches places)
staying_entries numbers batches [] = refl
staying_entries numbers batches (place ∷ places) = one_stays numbers batches place places (entry_in batches place) refl (staying_entries numbers batches places)

one_filled : (numbers : List ℕ) (batches : List (List Entry)) (place : Place) (places : List Place) (found : Option Entry) → entry_in batches place ≡ found
    → AreFilled batches (places_staying numbers batches places) → AreFilled batches (cond (stays numbers found) (place ∷ places_staying numbers batches places) (places_staying numbers batches places))
one_filled numbers batches place places None is rest = rest
one_filled numbers batches place places (Some entry) is rest = by (not (has_number numbers entry))
  where
    by : (left : Bool) → AreFilled batches (cond left (place ∷ places_staying numbers batches places) (places_staying numbers batches places))
    by true = (subst (λ (f : Option Entry). IsSome f) (sym is) refl, rest)
    by false = rest

pub staying_filled : (numbers : List ℕ) (batches : List (List Entry)) (places : List Place) → AreFilled batches (places_staying numbers batches places)
staying_filled numbers batches [] = tt
staying_filled numbers batches (place ∷ places) = one_filled numbers batches place places (entry_in batches place) refl (staying_filled numbers batches places)

-- ---- entries in front of others

stay_behind : (batches more : List (List Entry)) → StayIn batches (batches ++ more)
stay_behind batches more = record { named = λ place is. kept_outer batches more place.batch place.place is }

last_batch : (batches : List (List Entry)) (front : List Entry) → get_or (batches ++ front ∷ []) (length batches) [] ≡ front
last_batch [] front = refl
last_batch (entries ∷ batches) front = last_batch batches front

both_filled : (batches : List (List Entry)) (first behind : List Place) → AreFilled batches first → AreFilled batches behind → AreFilled batches (first ++ behind)
both_filled batches [] behind filled others = others
both_filled batches (place ∷ first) behind filled others = (filled.0, both_filled batches first behind filled.1 others)

pub behind_filled : (batches new : List (List Entry)) (front : List Entry) (first places all : List Place) → AreFilled batches places → new ≡ batches ++ front ∷ []
    → all ≡ first ++ places → AreFilled new first → AreFilled new all
behind_filled batches new front first places all filled grown put named =
    subst (AreFilled new) (sym put)
    (both_filled new first places named (subst (λ (bs : List (List Entry)). AreFilled bs places) (sym grown) (same_filled batches (batches ++ front ∷ []) places filled (stay_behind batches (front ∷ [])))))

pub behind_entries : (batches new : List (List Entry)) (front : List Entry) (batch : ℕ) (first places all : List Place) → AreFilled batches places → new ≡ batches ++ front ∷ []
    → batch ≡ length batches → all ≡ first ++ places → entries_at new first ≡ get_or new batch [] → entries_at new all ≡ front ++ entries_at batches places
behind_entries batches new front batch first places all filled grown at put named =
    ap (entries_at new) put
    ∙ (filter_map-append (entry_in new) first places
    ∙ (ap (λ (es : List Entry). es ++ entries_at new places) (named ∙ (ap (λ (n : ℕ). get_or new n []) at ∙ (ap (λ (bs : List (List Entry)). get_or bs (length batches) []) grown ∙ last_batch batches front)))
    ∙ ap (λ (es : List Entry). front ++ es) (ap (λ (bs : List (List Entry)). entries_at bs places) grown ∙ same_entries batches (batches ++ front ∷ []) places filled (stay_behind batches (front ∷ [])))))

-- ---- the places of a batch

record ReadAt (entries : List Entry) (n : ℕ) : Type 0 where
  entry : Entry
  at : slice_get entries n ≡ Some entry
  more : take (suc n) entries ≡ take n entries ++ entry ∷ []

read_at : (entries : List Entry) (n : ℕ) → n < length entries → ReadAt entries n
read_at [] n less = absurd (omega (arith, less))
read_at (entry ∷ entries) zero less = record { entry = entry; at = refl; more = refl }
read_at (entry ∷ entries) (suc n) less =
    let rest : ReadAt entries n = read_at entries n (omega (arith, less)) in
    record { entry = rest.entry; at = rest.at; more = ap (λ (es : List Entry). entry ∷ es) rest.more }

named_there : (batches : List (List Entry)) (place : Place) (entries : List Entry) (n : ℕ) (read : ReadAt entries n) → get_or batches place.batch [] ≡ entries → place.place ≡ n
    → entry_in batches place ≡ Some read.entry
named_there batches place entries n read is at = ap (λ (es : List Entry). slice_get es place.place) is ∙ (ap (slice_get entries) at ∙ read.at)

pub named_more : (batches : List (List Entry)) (places all : List Place) (place : Place) (entries : List Entry) (n : ℕ) → entries_at batches places ≡ take n entries → n < length entries
    → get_or batches place.batch [] ≡ entries → place.place ≡ n → all ≡ places ++ place ∷ [] → entries_at batches all ≡ take (n + 1) entries
named_more batches places all place entries n named less is at put =
    let read : ReadAt entries n = read_at entries n less in
    let step : suc n ≡ n + 1 = omega arith in
    ap (entries_at batches) put
    ∙ (filter_map-append (entry_in batches) places (place ∷ [])
    ∙ (ap (λ (es : List Entry). es ++ entries_at batches (place ∷ [])) named
    ∙ (ap (λ (found : Option Entry). take n entries ++ cons_option found []) (named_there batches place entries n read is at) ∙ (sym read.more ∙ ap (λ (m : ℕ). take m entries) step))))

pub filled_more : (batches : List (List Entry)) (places all : List Place) (place : Place) (entries : List Entry) (n : ℕ) → AreFilled batches places → n < length entries
    → get_or batches place.batch [] ≡ entries → place.place ≡ n → all ≡ places ++ place ∷ [] → AreFilled batches all
filled_more batches places all place entries n filled less is at put =
    let read : ReadAt entries n = read_at entries n less in
    subst (AreFilled batches) (sym put)
    (both_filled batches places (place ∷ []) filled (subst (λ (found : Option Entry). IsSome found) (sym (named_there batches place entries n read is at)) refl, tt))

-- ---- those of a list that stay

pub left_of_both : (numbers gone : List ℕ) (own named now copied shared : List Entry) (count : ℕ) → ((entry : Entry) → has_number numbers entry ≡ has_number gone entry) → own ++ named ≡ now
    → count ≡ length own → copied ≡ without numbers (take count now) → shared ≡ without numbers named → copied ++ shared ≡ without gone now
left_of_both numbers gone own named now copied shared count alike is long copies shares =
    let first : take count now ≡ own = ap (λ (n : ℕ). take n now) long ∙ (ap (take (length own)) (sym is) ∙ take-append_seam own named) in
    ap (λ (es : List Entry). es ++ shared) (copies ∙ ap (without numbers) first)
    ∙ (ap (λ (es : List Entry). without numbers own ++ es) shares
    ∙ (sym (filter-append (λ (e : Entry). not (has_number numbers e)) own named) ∙ (ap (without numbers) is ∙ left_alike numbers gone now alike)))

pub left_of_all : (numbers gone : List ℕ) (now copied none : List Entry) (count : ℕ) → ((entry : Entry) → has_number numbers entry ≡ has_number gone entry) → count ≡ length now
    → copied ≡ without numbers (take count now) → none ≡ [] → copied ++ none ≡ without gone now
left_of_all numbers gone now copied none count alike long copies is =
    ap (λ (es : List Entry). copied ++ es) is
    ∙ (append-nil copied ∙ (copies ∙ (ap (λ (n : ℕ). without numbers (take n now)) long ∙ (ap (without numbers) (take-length now) ∙ left_alike numbers gone now alike))))
