-- SPDX-License-Identifier: MIT
-- What digits spell, and which octets spell nothing.
use Rattle.std.proofs.Common.{◌≡◌, ℕ, ◌+◌, ◌*◌, List, Some, None, Ok, Err, Result, refl}
use Rattle.std.specs.List.{AllPass}
use Rattle.std.specs.Result.{result_ok}
use Rattle.hex.specs.declared.error.FromHexError.{FromHexError}
use Rattle.hex.specs.Hex.{hex_digit_value, is_hex_digit, pair_value, decode_of}
use Rattle.hex.proofs.HexLemmas.{decode_of-ok}

-- the octet of two digits
pub pair_of_digits : (high low value_of_high value_of_low place : ℕ) → hex_digit_value high ≡ Some value_of_high → hex_digit_value low ≡ Some value_of_low
    → pair_value high low place ≡ Ok (value_of_high * 16 + value_of_low)
pair_of_digits high low value_of_high value_of_low place is_high is_low = rw (is_high, is_low) refl

nothing : (spelled : Result (List ℕ) FromHexError) → ((octets : List ℕ) → spelled ≡ Ok octets → ⊥) → result_ok spelled ≡ None
nothing (Ok octets) never = absurd (never octets refl)
nothing (Err fault) never = refl

pub others_spell_nothing : (octets : List ℕ) → (AllPass is_hex_digit octets → ⊥) → result_ok (decode_of octets) ≡ None
others_spell_nothing octets others = nothing (decode_of octets) (λ found is. others (decode_of-ok octets found is).1)
