-- SPDX-License-Identifier: MIT
-- The keys of a cache: a folded name, a class, and what of them is kept.
use Rattle.std.specs.Prelude.{◌≡◌, ℕ, ◌/◌, List, ◌∷◌, ◌++◌, Bool, true, false, ◌&&◌, ◌==◌, nat_eq}
use Rattle.std.specs.declared.cmp.Ordering.{Ordering}
use Rattle.std.specs.Ordering.{nat_cmp, ordering_then}
use Rattle.std.specs.Cmp.Lexicographic.{pointwise, slice_cmp}
use Rattle.std.specs.Hash.{HashWrites}
use Rattle.std.specs.Hash as fed
use Rattle.rrc_name.specs.declared.slot.Slot.{Slot}
use Rattle.rrc_name.specs.declared.slot.Slot.TheVariants.{Set, Nx, Failed}
use Rattle.rrc_name.specs.Wire.{folded}
use Rattle.rrc_name.specs.Order.{canonical_order}

-- what a key is: the wire form of a name, a class (RFC 1035 section 3.2.4), and a slot of them
pub record KeyOf : Type 0 where
  pub name : List ℕ
  pub class : ℕ
  pub slot : Slot

-- the name of a key has no letter A to Z
abbrev pub IsFolded : List ℕ → Type 0
IsFolded name = folded name ≡ name

-- whether the slots are the same
abbrev pub slot_eq : Slot → Slot → Bool
slot_eq (Set a) (Set b) = a == b
slot_eq Nx Nx = true
slot_eq (Failed a) (Failed b) = a == b
slot_eq a b = false

-- the place of a slot's kind: sets, then that there is no such name, then failures
abbrev pub kind_place : Slot → ℕ
kind_place (Set rtype) = 0
kind_place Nx = 1
kind_place (Failed rtype) = 2

-- the type that a slot is of, and 0 for that there is no such name
abbrev pub type_of : Slot → ℕ
type_of (Set rtype) = rtype
type_of Nx = 0
type_of (Failed rtype) = rtype

-- sets by type, then that there is no such name, then failures by type
abbrev pub slot_order : Slot → Slot → Ordering
slot_order a b = ordering_then (nat_cmp (kind_place a) (kind_place b)) (nat_cmp (type_of a) (type_of b))

-- whether keys of one name are the same
abbrev pub eq_in_name : KeyOf → KeyOf → Bool
eq_in_name wanted key = wanted.class == key.class && slot_eq wanted.slot key.slot

-- keys of one name by class, and then by slot
abbrev pub order_in_name : KeyOf → KeyOf → Ordering
order_in_name a b = ordering_then (nat_cmp a.class b.class) (slot_order a.slot b.slot)

-- whether the keys are the same, the wanted key first: the one word by which keys are compared
abbrev pub key_eq : KeyOf → KeyOf → Bool
key_eq wanted key = pointwise nat_eq wanted.name key.name && eq_in_name wanted key

-- keys by the canonical order of their names, then by class and by slot, which is all between folded names; other names that tie
-- go by their octets before the class: the one word by which keys are ordered
abbrev pub key_order : KeyOf → KeyOf → Ordering
key_order a b = ordering_then (canonical_order a.name b.name) (ordering_then (slice_cmp nat_cmp a.name b.name) (order_in_name a b))

-- what slots are hashed by: the kind's place and the type
abbrev pub slot_hash : Slot → HashWrites
slot_hash slot = fed.u8 (kind_place slot) ++ fed.u16 (type_of slot)

-- types come in blocks of 32, so that the slots that one ask looks for mostly are of one block
abbrev pub block_of : Slot → ℕ
block_of slot = type_of slot / 32

-- what keys are hashed by: the octets of their name, and the block of their slot
abbrev pub key_hash : KeyOf → HashWrites
key_hash key = key.name ∷ fed.u16 (block_of key.slot)
