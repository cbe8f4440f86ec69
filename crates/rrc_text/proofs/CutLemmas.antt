-- SPDX-License-Identifier: MIT
-- Octets are cut at their first LF, or have none.
use Rattle.std.proofs.Common.{◌≡◌, ◌==◌, ℕ, suc, zero, ◌+◌, ◌<◌, ◌≤◌, Bool, true, false, List, [], ◌∷◌, ◌++◌, length, take, get_or, position, nat_lt, cond, Some, None, refl, ap, subst, ◌∙◌, arith}
use Rattle.std.specs.List.{position_or_len}
use Rattle.std.proofs.lemmas.Bool.Decides.{nat_tests}
use Rattle.std.proofs.lemmas.List.{take_all, take_more}
use Rattle.std.proofs.lemmas.List.Sums.{fails_before_first}
use Rattle.std.proofs.lemmas.List.Quantifiers.{position-Some}
use Rattle.rrc_text.specs.Cuts.{IsUnended, IsCut}

abbrev is_lf : ℕ → Bool
is_lf octet = octet == 10

-- the octets in front of a place, none of which is an LF
unended-to : (octets : List ℕ) (place : ℕ) → place ≤ length octets → ((k : ℕ) → k < place → is_lf (get_or octets k 0) ≡ false) → IsUnended (take place octets)
unended-to octets zero inside none = tt
unended-to [] (suc place) inside none = absurd (omega arith)
unended-to (octet ∷ octets) (suc place) inside none =
    let first : (octet == 10) ≡ false = none 0 (omega arith) in
    (λ is. absurd (grind (arith, nat_tests, first, is)), unended-to octets place (omega arith) (λ k below. none (suc k) (omega arith)))

-- the octets to the first LF and with it
pub cut_at : (octets : List ℕ) (place : ℕ) → position is_lf octets ≡ Some place → IsCut true (take (place + 1) octets)
cut_at octets place found =
    let first = position-Some is_lf octets place 0 found in
    let lf : get_or octets place 0 ≡ 10 = grind (arith, nat_tests, first.1) in (
      take place octets,
      unended-to octets place (omega (arith, first.0)) first.2,
      take_more octets place 0 first.0 ∙ ap (λ octet. take place octets ++ octet ∷ []) lf,
    )

nowhere : (found : Bool) (place : ℕ) → cond found (Some place) None ≡ None → found ≡ false
nowhere true place h = absurd cc
nowhere false place h = refl

-- octets with no LF
pub uncut : (octets : List ℕ) → position is_lf octets ≡ None → IsCut false octets
uncut octets found =
    let past = nowhere (nat_lt (position_or_len is_lf octets) (length octets)) (position_or_len is_lf octets) found in
    let far : length octets ≤ position_or_len is_lf octets = grind (arith, nat_tests, past) in
    subst IsUnended (take_all (length octets) octets (omega arith))
    (unended-to octets (length octets) (omega arith) (λ k below. fails_before_first is_lf octets k 0 (omega (arith, far, below))))
