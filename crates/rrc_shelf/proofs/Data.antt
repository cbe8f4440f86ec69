-- SPDX-License-Identifier: MIT
-- Data that stand one behind another, each behind its length, can be read in one way alone.
use Rattle.std.proofs.Common.{◌≡◌, ℕ, ◌+◌, ◌*◌, ◌/◌, ◌%◌, ◌<◌, ◌≤◌, ◌⊎◌, List, [], ◌∷◌, ◌++◌, length, take, drop, slice_index, refl, sym, ap, subst, ◌∙◌, inl, inr, arith, append_assoc}
use Rattle.std.proofs.lemmas.List.{take_at, length-append}
use Rattle.std.specs.List.{AllByRecursion}
use Rattle.rrc_wire.specs.Plain.{IsPlain}
use Rattle.rrc_shelf.specs.Checks.{memory, unless, Refuses}
use Rattle.rrc_shelf.specs.Refusals.{AreData}
use Rattle.rrc_shelf.specs.Asks.{datum, data_text}
use Rattle.rrc_shelf.specs.declared.status.Status.TheVariants.{BadData}

-- what stands before of the same length is the same, and so is what stands behind
same_front : (a b x y : List ℕ) → length a ≡ length b → a ++ x ≡ b ++ y → a ≡ b
same_front a b x y long is = sym (take_at a x (length a) refl) ∙ ap (take (length a)) is ∙ take_at b y (length a) (sym long)

same_back : (a b x y : List ℕ) → length a ≡ length b → a ++ x ≡ b ++ y → x ≡ y
same_back [] [] x y long is = is
same_back [] (two ∷ b) x y long is = absurd (omega (arith, long))
same_back (one ∷ a) [] x y long is = absurd (omega (arith, long))
same_back (one ∷ a) (two ∷ b) x y long is = same_back a b x y (omega (arith, long)) (ap (drop 1) is)

same_length : (a b : ℕ) → a / 256 ≡ b / 256 → a % 256 ≡ b % 256 → a ≡ b
same_length a b high low = omega (arith, high, low)

-- so data that begin alike have the same first one
pub same_first : (a b x y : List ℕ) → datum a ++ x ≡ datum b ++ y → a ≡ b
same_first a b x y is =
    let long = same_length (length a) (length b) (ap (λ xs. slice_index xs 0) is) (ap (λ xs. slice_index xs 1) is) in
    same_front a b x y long (ap (drop 2) is)

pub same_behind : (a b x y : List ℕ) → datum a ++ x ≡ datum b ++ y → x ≡ y
same_behind a b x y is =
    let long = same_length (length a) (length b) (ap (λ xs. slice_index xs 0) is) (ap (λ xs. slice_index xs 1) is) in
    same_back a b x y long (ap (drop 2) is)

module _ (rtype : ℕ) where
  -- what stands behind data in data are data
  behind_are : (items all : List (List ℕ)) (rest : List ℕ) → data_text items ++ rest ≡ data_text all → AllByRecursion (IsPlain rtype) all → AreData rtype rest
  behind_are [] all rest is plain = record { items = all; stand = sym is; plain = plain }
  behind_are (item ∷ items) [] rest is plain = absurd cc
  behind_are (item ∷ items) (one ∷ all) rest is plain =
      behind_are items all rest (same_behind item one (data_text items ++ rest) (data_text all) (sym (append_assoc (datum item) (data_text items) rest) ∙ is)) plain.1

  begins_so : (all : List (List ℕ)) (first behind : List ℕ) → data_text all ≡ datum first ++ behind → AllByRecursion (IsPlain rtype) all → IsPlain rtype first
  begins_so [] first behind is plain = absurd cc
  begins_so (one ∷ all) first behind is plain = subst (IsPlain rtype) (same_first one first (data_text all) behind is) plain.0

  -- no datum stands first
  abbrev HasNone : List ℕ → Type 0
  HasNone octets = (first behind : List ℕ) → octets ≡ datum first ++ behind → ⊥

  none_in : (all : List (List ℕ)) (rest : List ℕ) → data_text all ≡ rest → 1 ≤ length rest → HasNone rest → ⊥
  none_in [] rest is some none = let size = ap length is in omega (arith, size, some)
  none_in (one ∷ all) rest is some none = none one (data_text all) (sym is)

  -- where octets go on behind data with what is no datum, or with one that is not plain, they are no data
  pub cut_off : (items : List (List ℕ)) (rest octets : List ℕ) → data_text items ++ rest ≡ octets → 1 ≤ length rest → HasNone rest → AreData rtype octets → ⊥
  cut_off items rest octets is some none are =
      let left = behind_are items are.items rest (is ∙ sym are.stand) are.plain in none_in left.items rest left.stand some none

  pub not_plain : (items : List (List ℕ)) (first behind octets : List ℕ) → data_text items ++ (datum first ++ behind) ≡ octets → (IsPlain rtype first → ⊥) → AreData rtype octets → ⊥
  not_plain items first behind octets is bad are =
      let left = behind_are items are.items (datum first ++ behind) (is ∙ sym are.stand) are.plain in bad (begins_so left.items first behind left.stand left.plain)

  -- octets in which a datum is refused are refused
  pub datum_refused : (items : List (List ℕ)) (first behind octets : List ℕ) (number : ℕ) → data_text items ++ (datum first ++ behind) ≡ octets
      → Refuses (memory ∷ unless BadData (IsPlain rtype first) ∷ []) number → Refuses (memory ∷ unless BadData (AreData rtype octets) ∷ []) number
  datum_refused items first behind octets number is (inl none) = inl none
  datum_refused items first behind octets number is (inr (some, inl (told, bad))) = inr (tt, inl (told, not_plain items first behind octets is bad))
  datum_refused items first behind octets number is (inr (some, inr (plain, none))) = absurd none

-- octets that end within a length, or before as many as it tells, do not begin with a datum
pub no_datum : (octets : List ℕ) → (length octets < 2) ⊎ (length octets < slice_index octets 0 * 256 + slice_index octets 1 + 2)
    → (first behind : List ℕ) → octets ≡ datum first ++ behind → ⊥
no_datum octets (inl short) first behind is = let size = ap length is in omega (arith, short, size)
no_datum octets (inr short) first behind is =
    let size = ap length is ∙ length-append (datum first) behind in
    let high : slice_index octets 0 ≡ length first / 256 = ap (λ xs. slice_index xs 0) is in
    let low : slice_index octets 1 ≡ length first % 256 = ap (λ xs. slice_index xs 1) is in
    omega (arith, short, size, high, low)
