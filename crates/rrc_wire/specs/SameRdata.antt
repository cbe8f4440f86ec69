-- SPDX-License-Identifier: MIT
-- Which data are the same: the case of letters in names is nothing to a name, and every other octet counts.
use Rattle.std.specs.Prelude.{◌≡◌, ◌≤◌, ℕ, nat_eq, Bool, List, length, map, Option, Some, None, if◌then◌else◌}
use Rattle.std.specs.Cmp.Lexicographic.{pointwise}
use Rattle.rrc_name.specs.Wire.{folded}
use Rattle.rrc_wire.specs.Layout.{LayoutOf, layout_of}
use Rattle.rrc_wire.specs.Plain.{Parts, octets_of, AreParts, parts_in, is_plain}

-- the parts with the letters A to Z of their names as a to z (RFC 4343 3)
abbrev pub lowered_parts : Parts → Parts
lowered_parts parts = record { before = parts.before; names = map folded parts.names; behind = parts.behind }

-- the data of a layout with the letters of their names lowered; without a layout there are no names
abbrev pub lowered_by : Option LayoutOf → List ℕ → List ℕ
lowered_by None octets = octets
lowered_by (Some layout) octets = octets_of (lowered_parts (parts_in layout octets))

-- the data with the letters of their names lowered, where they are plain; others stay as they are
unfoldable pub lowered_rdata : ℕ → List ℕ → List ℕ
lowered_rdata rtype octets = if is_plain rtype octets then lowered_by (layout_of rtype) octets else octets

-- plain data, made of the parts of a layout, are lowered name by name
abbrev pub LowersNames : Type 0
LowersNames = (rtype : ℕ) (layout : LayoutOf) (parts : Parts) → layout_of rtype ≡ Some layout → AreParts layout parts → length (octets_of parts) ≤ 65535
    → lowered_rdata rtype (octets_of parts) ≡ octets_of (lowered_parts parts)

-- the data are the same but for the case of letters in their names; of a type without a layout they are the same octets (RFC 3597 6)
abbrev pub IsSameRdata : ℕ → List ℕ → List ℕ → Type 0
IsSameRdata rtype a b = lowered_rdata rtype a ≡ lowered_rdata rtype b

-- whether the data are the same, so that one of two records that differ in nothing else is left out (RFC 2181 5)
unfoldable pub same_rdata : ℕ → List ℕ → List ℕ → Bool
same_rdata rtype a b = pointwise nat_eq (lowered_rdata rtype a) (lowered_rdata rtype b)
