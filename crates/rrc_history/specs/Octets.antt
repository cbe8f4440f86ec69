-- SPDX-License-Identifier: MIT
-- How many octets of memory entries take. A resolver bounds its memory by them.
use Rattle.std.specs.Prelude.{ℕ, ◌+◌, List, [], ◌∷◌, length, nat_eq, nat_le, if◌then◌else◌}
use Rattle.std.specs.Cmp.Lexicographic.{pointwise}
use Rattle.rrc_name.specs.Key.{KeyOf}
use Rattle.rrc_history.specs.declared.body.Body.{Body}
use Rattle.rrc_history.specs.declared.body.Body.TheVariants.{Positive, Negative, Failure}
use Rattle.rrc_history.specs.declared.snapshot.Entry.{Entry}

-- what each key takes beside its name and what it holds: the entry with its places in the list, in
-- the map and in the queue of expiries
abbrev pub ENTRY_OCTETS : ℕ
ENTRY_OCTETS = 160

-- the room of a list of octets, which has up to so many of them in itself
abbrev pub VALUE_OCTETS : ℕ
VALUE_OCTETS = 48

abbrev pub INLINE_OCTETS : ℕ
INLINE_OCTETS = 32

-- what the heap adds to a block of memory, as its head and to round it up
abbrev pub BLOCK_OCTETS : ℕ
BLOCK_OCTETS = 16

-- what a value that has several owners takes beside itself: the count of these, and its block
abbrev pub SHARED_OCTETS : ℕ
SHARED_OCTETS = 32

-- the room of so many octets: those that do not stand in the value have a block of their own
abbrev pub value_octets : ℕ → ℕ
value_octets size = if nat_le size INLINE_OCTETS then VALUE_OCTETS else VALUE_OCTETS + BLOCK_OCTETS + size

-- the room of a name of so many octets, which several may own
abbrev pub name_octets : ℕ → ℕ
name_octets size = SHARED_OCTETS + value_octets size

-- the room of an owner's name under a key: where the two are spelled alike they are one value
abbrev pub owner_octets : KeyOf → List ℕ → ℕ
owner_octets key owner = if pointwise nat_eq owner key.name then 0 else name_octets (length owner)

-- the room of the data of records
abbrev pub records_octets : List (List ℕ) → ℕ
records_octets [] = 0
records_octets (rdata ∷ records) = value_octets (length rdata) + records_octets records

-- the room of the records of a set: one stands in the list itself, several in a block of their own
abbrev pub list_octets : List (List ℕ) → ℕ
list_octets items = if nat_le (length items) 1 then records_octets items else VALUE_OCTETS + BLOCK_OCTETS + records_octets items

-- the room of a body under a key: of a set that of its owner's name and of its records, of a
-- negative answer that of its SOA record (RFC 2308 5), of a failure none
abbrev pub body_octets : KeyOf → Body → ℕ
body_octets key (Positive trust ttl owner items) = owner_octets key owner + (SHARED_OCTETS + list_octets items)
body_octets key (Negative trust ttl soa_owner soa) = owner_octets key soa_owner + (SHARED_OCTETS + value_octets (length soa))
body_octets key (Failure ttl) = 0

-- the octets that a body takes under a key, with the key
abbrev pub octets_under : KeyOf → Body → ℕ
octets_under key body = ENTRY_OCTETS + name_octets (length key.name) + body_octets key body

-- the octets of an entry
abbrev pub entry_octets : Entry → ℕ
entry_octets entry = octets_under entry.key entry.body

-- the octets of entries
abbrev pub octets_of : List Entry → ℕ
octets_of [] = 0
octets_of (entry ∷ entries) = entry_octets entry + octets_of entries
