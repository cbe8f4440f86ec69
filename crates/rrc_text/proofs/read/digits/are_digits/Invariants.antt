-- SPDX-License-Identifier: MIT
-- all is still true exactly where the octets so far are digits
use Rattle.std.proofs.Common.{◌≡◌, ℕ, ◌<◌, true}
use Rattle.std.specs.Prelude.{slice_index}
use Rattle.hex.specs.Hex.{is_hex_digit}
use Rattle.rrc_text.proofs.read.digits.are_digits.Given as goal

abbrev pub invariant-loop-octet : goal.invariant-loop-octet
invariant-loop-octet l = record {
  digits : l.all ≡ true → (k : ℕ) → k < l.octet-index → is_hex_digit (slice_index l.octets k) ≡ true;
  all : ((k : ℕ) → k < l.octet-index → is_hex_digit (slice_index l.octets k) ≡ true) → l.all ≡ true;
}
