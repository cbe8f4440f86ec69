-- SPDX-License-Identifier: MIT
-- How the fields of a line are found, one after another: what private contracts say. What fields are stands in Grammar.
use Rattle.std.specs.Prelude.{ℕ, List, [], Bool, take, drop, not, position, is_some, Option, Some, None, option_map, ◌==◌}
use Rattle.rrc_text.specs.Gives.{◌>>=◌}

-- the octets before the first space, and those from it on
abbrev pub field_in_front : List ℕ → List ℕ × List ℕ
field_in_front octets =
    elim (position (λ octet. octet == 32) octets) [ None ↦ (octets, []) | Some end ↦ (take end octets, drop end octets) ]

-- the place of the first octet that is no space
abbrev pub first_unspaced : List ℕ → Option ℕ
first_unspaced octets = position (λ octet. not (octet == 32)) octets

-- the first field, and the octets behind it
abbrev pub field_at : List ℕ → Option (List ℕ × List ℕ)
field_at octets = option_map (λ start. field_in_front (drop start octets)) (first_unspaced octets)

abbrev pub has_field : List ℕ → Bool
has_field octets = is_some (first_unspaced octets)

-- what the first field says, and the octets behind it
abbrev pub said_at : {X : Type 0} → (List ℕ → Option X) → List ℕ → Option (X × List ℕ)
said_at said octets = do
  field ← field_at octets
  value ← said field.0
  Some (value, field.1)
