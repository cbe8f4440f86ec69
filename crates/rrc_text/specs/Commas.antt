-- SPDX-License-Identifier: MIT
-- How a field is cut at its commas: what private contracts say.
use Rattle.std.specs.Prelude.{ℕ, List, Bool, option_map, take, drop, position, ◌+◌, Option, ◌==◌}

abbrev pub is_comma : ℕ → Bool
is_comma octet = octet == 44

-- the octets before a place, and those behind it
abbrev pub cut_round : List ℕ → ℕ → List ℕ × List ℕ
cut_round octets place = (take place octets, drop (place + 1) octets)

-- the octets before the first comma, and those behind it
abbrev pub cut_at_comma : List ℕ → Option (List ℕ × List ℕ)
cut_at_comma octets = option_map (cut_round octets) (position is_comma octets)
