-- SPDX-License-Identifier: MIT
-- How octets that stand in a line in hexadecimal are read: what private contracts say.
use Rattle.std.specs.Prelude.{ℕ, List, [], ◌∷◌, length, Option, Some, None, ◌==◌, bytes_eq, if◌then◌else◌}
use Rattle.std.specs.Result.{result_ok}
use Rattle.hex.specs.Hex.{decode_of}

-- the octets of hexadecimal digits of either case, or none for a dash; no digits spell nothing
abbrev pub octets_of : List ℕ → Option (List ℕ)
octets_of digits =
    if bytes_eq digits (45 ∷ []) then Some []
    else if length digits == 0 then None
    else result_ok (decode_of digits)
