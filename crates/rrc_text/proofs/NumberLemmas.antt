-- SPDX-License-Identifier: MIT
-- A number that is too large stays so behind more digits.
use Rattle.std.proofs.Common.{◌≡◌, ℕ, zero, suc, ◌+◌, ◌-◌, ◌*◌, ◌<◌, List, [], ◌∷◌, length, drop, get_or, None, true, false, refl, arith, cond}
use Rattle.std.specs.Char.{is_ascii_digit}
use Rattle.std.proofs.lemmas.Bool.Decides.{nat_tests}
use Rattle.rrc_text.specs.Numbers.{number_behind, at_most}

pub number_behind_too_large : (most number : ℕ) (digits : List ℕ) → most < number → at_most most (number_behind number digits) ≡ None
number_behind_too_large most number [] h = grind (arith, nat_tests)
number_behind_too_large most number (digit ∷ digits) h =
    let more : most < 10 * number + (digit - 48) = omega arith in
    let rest = number_behind_too_large most (10 * number + (digit - 48)) digits more in
    elim (is_ascii_digit digit) as (λ is. at_most most (cond is (number_behind (10 * number + (digit - 48)) digits) None) ≡ None) [
      | true ↦ rest
      | false ↦ refl
    ]

-- a digit that makes the number too large
pub number_behind_passes : (most number place : ℕ) (digits : List ℕ) → place < length digits → is_ascii_digit (get_or digits place 0) ≡ true
    → most < 10 * number + (get_or digits place 0 - 48) → at_most most (number_behind number (drop place digits)) ≡ None
number_behind_passes most number place [] within is over = absurd (omega arith)
number_behind_passes most number zero (digit ∷ digits) within is over =
    rw is (number_behind_too_large most (10 * number + (digit - 48)) digits over)
number_behind_passes most number (suc place) (digit ∷ digits) within is over =
    number_behind_passes most number place digits (omega arith) is over
