-- SPDX-License-Identifier: MIT
-- The filter of names of which NXDOMAIN or a failure is cached (RFC 2308, RFC 9520).
use Rattle.std.specs.Prelude.{◌≡◌, ℕ, ◌-◌, bit_and, List, length, Bool, true, false, slice_index_or}
use Rattle.std.specs.List.{AllByRecursion}
use Rattle.rrc_cache.specs.declared.seeded.Seeded.{Seeded}
use Rattle.rrc_name.specs.declared.slot.Slot.{Slot}
use Rattle.rrc_name.specs.declared.slot.Slot.TheVariants.{Set, Nx, Failed}
use Rattle.rrc_history.specs.declared.snapshot.Entry.{Entry}
use Rattle.rrc_cache.specs.Keyed.{name_hash}

-- whether a slot is for NXDOMAIN or a failure, and not for an RRset or NODATA
abbrev pub is_negative_slot : Slot → Bool
is_negative_slot (Set rtype) = false
is_negative_slot Nx = true
is_negative_slot (Failed rtype) = true

-- the place of a hash: its lowest bits
abbrev pub place_of : ℕ → ℕ → ℕ
place_of places hash = bit_and hash (places - 1)

-- whether the place of a hash is marked
abbrev pub is_marked : List Bool → ℕ → Bool
is_marked marks hash = slice_index_or marks (place_of (length marks) hash) false

-- a mark for each place, and the seed by which names have their places
pub record NegativeFilterOf : Type 0 where
  pub seeded : Seeded
  pub marks : List Bool

abbrev pub filter_of : Seeded → List Bool → NegativeFilterOf
filter_of seeded marks = record { seeded = seeded; marks = marks }

-- whether NXDOMAIN or a failure may be cached of a name: the place of its hash is marked
abbrev pub may_hold : NegativeFilterOf → List ℕ → Bool
may_hold filter name = is_marked filter.marks (name_hash filter.seeded name)

-- an entry of a negative slot is of a name that may hold it
abbrev pub IsMarked : NegativeFilterOf → Entry → Type 0
IsMarked filter entry = is_negative_slot entry.key.slot ≡ true → may_hold filter entry.key.name ≡ true

-- each entry of a negative slot is of a name that may hold it
abbrev pub AreMarked : NegativeFilterOf → List Entry → Type 0
AreMarked filter entries = AllByRecursion (IsMarked filter) entries
