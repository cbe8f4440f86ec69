-- SPDX-License-Identifier: MIT
-- What a search finds is the first place.
use Rattle.std.proofs.Common.{◌≡◌, ◌==◌, ◌+◌, ℕ, suc, Bool, true, false, List, ◌∷◌, length, position, option_map, Option, Some, None, cond, refl, ap, nat_lt, arith, le_refl, ⊎_elim}
use Rattle.std.specs.List.{position_or_len}
use Rattle.std.proofs.lemmas.Bool.{cases_Bool}
use Rattle.std.proofs.lemmas.Bool.Decides.{nat_tests}
use Rattle.std.proofs.lemmas.List.Sums.{position_or_len_is}
use Rattle.memchr.specs.Find.{IsFirstByte, is_byte}

-- the place in a list with one more in front
pub position-cons : {X : Type 0} (p : X → Bool) (x : X) (xs : List X) → position p (x ∷ xs) ≡ cond (p x) (Some 0) (option_map suc (position p xs))
position-cons p x xs = by (p x) refl (nat_lt (position_or_len p xs) (length xs)) refl
  where
    at : ℕ
    at = position_or_len p xs

    by : (is : Bool) → p x ≡ is → (within : Bool) → nat_lt at (length xs) ≡ within → position p (x ∷ xs) ≡ cond is (Some 0) (option_map suc (position p xs))
    by true is within inside = let first : nat_lt 0 (suc (length xs)) ≡ true = grind (arith, nat_tests) in rw (is, first) refl
    by false is true inside =
        let further : nat_lt (1 + at) (suc (length xs)) ≡ true = grind (arith, nat_tests, inside) in
        let next : 1 + at ≡ suc at = omega arith in rw (is, inside, further) (ap Some next)
    by false is false inside =
        let further : nat_lt (1 + at) (suc (length xs)) ≡ false = grind (arith, nat_tests, inside) in rw (is, inside, further) refl

fails : (b : Bool) → ¬ (b ≡ true) → b ≡ false
fails b never = ⊎_elim (λ passes. absurd (never passes)) (λ fails. fails) (cases_Bool b)

module _ (octet : ℕ) (octets : List ℕ) where
  pub found_place : (place : Option ℕ) → IsFirstByte (is_byte octet) octets place → place ≡ position (λ other. other == octet) octets
  found_place None nowhere =
      let past : position_or_len (λ other. other == octet) octets ≡ length octets =
      position_or_len_is (λ other. other == octet) octets (length octets) 0 (le_refl (length octets)) (λ k below. fails _ (nowhere k (omega arith) below)) (λ below. absurd (omega arith)) in
      rw past (grind (arith, nat_tests))
  found_place (Some place) first =
      let at : position_or_len (λ other. other == octet) octets ≡ place =
      position_or_len_is (λ other. other == octet) octets place 0 (omega (arith, first.0.high)) (λ k below. fails _ (first.0.before k (omega arith) below)) (λ _. first.1) in
      rw at (grind (arith, nat_tests, first.0.high))
