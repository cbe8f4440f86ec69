-- SPDX-License-Identifier: MIT
-- How the items of a put are read, piece by piece: what private contracts say.
use Rattle.std.specs.Prelude.{ℕ, List, option_map, [], ◌∷◌, length, Option, Some, None, nat_le, if◌then◌else◌}
use Rattle.std.specs.List.{slice_split}
use Rattle.rrc_wire.specs.Plain.{is_plain}
use Rattle.rrc_text.specs.Octets.{octets_of}
use Rattle.rrc_text.specs.Gives.{◌>>=◌}
use Rattle.rrc_trace.specs.Grammar.{with_item}
use Rattle.rrc_text.specs.Commas.{is_comma}

-- octets where they are plain data of a type: they fill its layout, with no pointer in their names (RFC 1035 3.3, RFC 3597 4)
abbrev pub plain_of : ℕ → List ℕ → Option (List ℕ)
plain_of rtype octets = if is_plain rtype octets then Some octets else None

-- plain data of a type in hexadecimal
abbrev pub item_of : ℕ → List ℕ → Option (List ℕ)
item_of rtype piece = octets_of piece >>= plain_of rtype

-- some items, and the one of a piece
abbrev pub with_piece : ℕ → List (List ℕ) → List ℕ → Option (List (List ℕ))
with_piece rtype items piece = option_map (with_item rtype items) (item_of rtype piece)

-- some items, and those of pieces: of the same data the first spelling stays
abbrev pub items_behind : ℕ → List (List ℕ) → List (List ℕ) → Option (List (List ℕ))
items_behind rtype items [] = Some items
items_behind rtype items (piece ∷ pieces) = with_piece rtype items piece >>= λ more. items_behind rtype more pieces

-- at most 256 items of a type, repeats counted
abbrev pub items_of : ℕ → List ℕ → Option (List (List ℕ))
items_of rtype field =
    let pieces = slice_split is_comma field in
    if nat_le (length pieces) 256 then items_behind rtype [] pieces else None
