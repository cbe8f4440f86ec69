-- SPDX-License-Identifier: MIT
-- Ordered trees in which the set of a record, and its data, are found.
use Rattle.std.specs.Prelude.{◌≡◌, ℕ, zero, suc, List, [], ◌∷◌, Bool, false, ◌&&◌, ◌==◌, nat_eq, Option, Some, None, if◌then◌else◌}
use Rattle.std.specs.declared.cmp.Ordering.{Ordering}
use Rattle.std.specs.Global.{Vec}
use Rattle.std.specs.Option.{option_map}
use Rattle.std.specs.List.{list_any}
use Rattle.std.specs.Ordering.{nat_cmp, ordering_then}
use Rattle.std.specs.Cmp.Lexicographic.{pointwise, slice_cmp}
use Rattle.std.specs.BTreeMap as map
use Rattle.std.specs.BTreeSet as set
use Rattle.rrc_name.specs.Wire.{folded}
use Rattle.rrc_wire.specs.SameRdata.{lowered_rdata}
use Rattle.rrc_sets.specs.Sets.{SetOf}

-- whether a set is of a type, and of an owner whose letters are lowered
abbrev pub is_of_key : ℕ → List ℕ → SetOf → Bool
is_of_key rtype owner set = set.rtype == rtype && pointwise nat_eq (folded set.owner) owner

-- the place of the first set that is of a type and an owner
abbrev pub place_at : List SetOf → ℕ → List ℕ → Option ℕ
place_at [] rtype owner = None
place_at (set ∷ sets) rtype owner = if is_of_key rtype owner set then Some 0 else option_map suc (place_at sets rtype owner)

-- whether a set has data that are lowered to these octets
abbrev pub has_lowered : SetOf → List ℕ → Bool
has_lowered set low = list_any (λ item. pointwise nat_eq (lowered_rdata set.rtype item) low) set.items

-- whether the set at a place has data that are lowered to these octets
abbrev pub has_at : List SetOf → ℕ → List ℕ → Bool
has_at [] place low = false
has_at (set ∷ sets) zero low = has_lowered set low
has_at (set ∷ sets) (suc place) low = has_at sets place low

-- numbers with octets, by number and then by octets
abbrev pub pair_order : ℕ × Vec ℕ → ℕ × Vec ℕ → Ordering
pair_order a b = ordering_then (nat_cmp a.0 b.0) (slice_cmp nat_cmp a.1.items b.1.items)

-- the map has the place of the set of each type and owner, and nothing else
abbrev pub FindsPlaces : map.BTreeMap (ℕ × Vec ℕ) ℕ → List SetOf → Type 0
FindsPlaces places sets = (key : ℕ × Vec ℕ) → map.get pair_order places key ≡ place_at sets key.0 key.1.items

-- the tree has the data of the set at each place, lowered, and nothing else
abbrev pub FindsData : set.BTreeSet (ℕ × Vec ℕ) → List SetOf → Type 0
FindsData seen sets = (datum : ℕ × Vec ℕ) → set.contains pair_order seen datum ≡ has_at sets datum.0 datum.1.items
