-- SPDX-License-Identifier: MIT
-- What places name in batches of entries.
use Rattle.std.specs.Prelude.{◌≡◌, ℕ, zero, suc, ◌+◌, ◌-◌, ◌<◌, ◌≤◌, Bool, true, false, not, ◌&&◌, Option, Some, None, IsSome, List, [], ◌∷◌, ◌++◌, length, slice_get}
use Rattle.std.proofs.Common.{refl, arith, sym, ap, subst, ◌∙◌, get_or, drop}
use Rattle.std.specs.List.{AllByRecursion, cons_option}
use Rattle.std.specs.Cmp.Lexicographic.{pointwise}
use Rattle.std.proofs.lemmas.List.{length-append, get_or-append_right, drop_more}
use Rattle.rrc_history.specs.declared.snapshot.Entry.{Entry}
use Rattle.rrc_history.specs.declared.entry_list.Place.{Place}
use Rattle.rrc_history.specs.EntryLists.{entry_in, entries_at, AreFilled}

-- ---- of any list

pub less_of_some : {X : Type 0} (xs : List X) (i : ℕ) → IsSome (slice_get xs i) → i < length xs
less_of_some [] i is = absurd cc
less_of_some (x ∷ xs) zero is = omega arith
less_of_some (x ∷ xs) (suc i) is = let rest : i < length xs = less_of_some xs i is in omega (arith, rest)

pub outer_less_of_some : {X : Type 0} (xss : List (List X)) (i j : ℕ) → IsSome (slice_get (get_or xss i []) j) → i < length xss
outer_less_of_some [] i j is = absurd cc
outer_less_of_some (xs ∷ xss) zero j is = omega arith
outer_less_of_some (xs ∷ xss) (suc i) j is = let rest : i < length xss = outer_less_of_some xss i j is in omega (arith, rest)

pub all_at : {X : Type 0} (P : X → Type 0) (xs : List X) (i : ℕ) (d : X) → AllByRecursion P xs → i < length xs → P (get_or xs i d)
all_at P [] i d all less = absurd (omega (arith, less))
all_at P (x ∷ xs) zero d all less = all.0
all_at P (x ∷ xs) (suc i) d all less = all_at P xs i d all.1 (omega (arith, less))

pub kept_outer : {X : Type 0} (xss more : List (List X)) (i j : ℕ) → IsSome (slice_get (get_or xss i []) j) → slice_get (get_or (xss ++ more) i []) j ≡ slice_get (get_or xss i []) j
kept_outer [] more i j is = absurd cc
kept_outer (xs ∷ xss) more zero j is = refl
kept_outer (xs ∷ xss) more (suc i) j is = kept_outer xss more i j is

-- ---- of entries at places

longer : (found : Option Entry) (entries : List Entry) → IsSome found → length (cons_option found entries) ≡ suc (length entries)
longer None entries is = absurd cc
longer (Some entry) entries is = refl

behind : (found : Option Entry) (entries : List Entry) (i : ℕ) (d : Entry) → IsSome found → get_or (cons_option found entries) (suc i) d ≡ get_or entries i d
behind None entries i d is = absurd cc
behind (Some entry) entries i d is = refl

pub length_at : (batches : List (List Entry)) (places : List Place) → AreFilled batches places → length (entries_at batches places) ≡ length places
length_at batches [] filled = refl
length_at batches (place ∷ places) filled = longer (entry_in batches place) (entries_at batches places) filled.0 ∙ ap suc (length_at batches places filled.1)

-- the entry that a place of the list names stands there
pub at_place : (batches : List (List Entry)) (places : List Place) (i : ℕ) (d : Place) (entry : Entry) → AreFilled batches places → i < length places
    → Some entry ≡ entry_in batches (get_or places i d) → entry ≡ get_or (entries_at batches places) i entry
at_place batches [] i d entry filled less is = absurd (omega (arith, less))
at_place batches (place ∷ places) zero d entry filled less is = rw (← is) refl
at_place batches (place ∷ places) (suc i) d entry filled less is =
    at_place batches places i d entry filled.1 (omega (arith, less)) is ∙ sym (behind (entry_in batches place) (entries_at batches places) i entry filled.0)

-- what the places name in some batches, they name in others too
pub record StayIn (old new : List (List Entry)) : Type 0 where
  pub named : (place : Place) → IsSome (entry_in old place) → entry_in new place ≡ entry_in old place

pub same_entries : (old new : List (List Entry)) (places : List Place) → AreFilled old places → StayIn old new → entries_at new places ≡ entries_at old places
same_entries old new [] filled stay = refl
same_entries old new (place ∷ places) filled stay =
    ap (λ found. cons_option found (entries_at new places)) (stay.named place filled.0) ∙ ap (cons_option (entry_in old place)) (same_entries old new places filled.1 stay)

pub same_filled : (old new : List (List Entry)) (places : List Place) → AreFilled old places → StayIn old new → AreFilled new places
same_filled old new [] filled stay = tt
same_filled old new (place ∷ places) filled stay =
    (subst (λ (found : Option Entry). IsSome found) (sym (stay.named place filled.0)) filled.0, same_filled old new places filled.1 stay)

-- ---- of a list of entries, the first of its own and the others at places

pub length_of : (own : List Entry) (batches : List (List Entry)) (places : List Place) (now : List Entry) → own ++ entries_at batches places ≡ now → AreFilled batches places
    → length own + length places ≡ length now
length_of own batches places now is filled =
    let whole : length (own ++ entries_at batches places) ≡ length own + length (entries_at batches places) = length-append own (entries_at batches places) in
    let same : length (own ++ entries_at batches places) ≡ length now = ap length is in
    let named : length (entries_at batches places) ≡ length places = length_at batches places filled in
    omega (arith, whole, same, named)

pub entry_behind : (own named now : List Entry) (place : ℕ) (entry : Entry) → own ++ named ≡ now → length own ≤ place → entry ≡ get_or named (place - length own) entry
    → entry ≡ get_or now place entry
entry_behind own named now place entry is le at =
    at ∙ (sym (get_or-append_right own named (length own) place entry refl le) ∙ ap (λ entries. get_or entries place entry) is)

pub entry_more : (entries now : List Entry) (passed : ℕ) (entry : Entry) → drop passed entries ≡ now → passed < length entries → entry ≡ get_or entries passed entry
    → now ≡ entry ∷ drop (passed + 1) entries
entry_more entries now passed entry is less at = sym is ∙ (drop_more entries passed entry less ∙ ap (λ e. e ∷ drop (passed + 1) entries) (sym at))

-- ---- of two lists compared place by place

compared : {X : Type 0} (E : X → X → Bool) (xs ys : List X) (i : ℕ) (x y : X) → i < length xs → length xs ≡ length ys → x ≡ get_or xs i x → y ≡ get_or ys i y
    → pointwise E (drop i xs) (drop i ys) ≡ (E x y && pointwise E (drop (i + 1) xs) (drop (i + 1) ys))
compared E xs ys i x y less long at at' =
    ap (λ l. pointwise E l (drop i ys)) (drop_more xs i x less ∙ ap (λ e. e ∷ drop (i + 1) xs) (sym at))
    ∙ ap (pointwise E (x ∷ drop (i + 1) xs)) (drop_more ys i y (omega (arith, less, long)) ∙ ap (λ e. e ∷ drop (i + 1) ys) (sym at'))

pub unlike_at : {X : Type 0} (E : X → X → Bool) (xs ys : List X) (i : ℕ) (x y : X) → i < length xs → length xs ≡ length ys → x ≡ get_or xs i x → y ≡ get_or ys i y
    → pointwise E (drop i xs) (drop i ys) ≡ pointwise E xs ys → E x y ≡ false → false ≡ pointwise E xs ys
unlike_at E xs ys i x y less long at at' so unlike =
    sym (ap (λ b. b && pointwise E (drop (i + 1) xs) (drop (i + 1) ys)) unlike) ∙ (sym (compared E xs ys i x y less long at at') ∙ so)

pub like_at : {X : Type 0} (E : X → X → Bool) (xs ys : List X) (i : ℕ) (x y : X) → i < length xs → length xs ≡ length ys → x ≡ get_or xs i x → y ≡ get_or ys i y
    → pointwise E (drop i xs) (drop i ys) ≡ pointwise E xs ys → E x y ≡ true → pointwise E (drop (i + 1) xs) (drop (i + 1) ys) ≡ pointwise E xs ys
like_at E xs ys i x y less long at at' so like =
    sym (ap (λ b. b && pointwise E (drop (i + 1) xs) (drop (i + 1) ys)) like) ∙ (sym (compared E xs ys i x y less long at at') ∙ so)

pub denied : (same unlike : Bool) → unlike ≡ not same → unlike ≡ true → same ≡ false
denied true unlike is so = absurd cc
denied false unlike is so = refl

pub granted : (same unlike : Bool) → unlike ≡ not same → unlike ≡ false → same ≡ true
granted true unlike is so = refl
granted false unlike is so = absurd cc
