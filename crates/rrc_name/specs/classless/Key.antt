-- SPDX-License-Identifier: MIT
-- The keys of a cache: a folded name, and what of it is kept.
use Rattle.std.specs.Prelude.{ℕ, List, Bool, ◌&&◌, nat_eq}
use Rattle.std.specs.declared.cmp.Ordering.{Ordering}
use Rattle.std.specs.Ordering.{nat_cmp, ordering_then}
use Rattle.std.specs.Cmp.Lexicographic.{pointwise, slice_cmp}
use Rattle.rrc_name.specs.declared.slot.Slot.{Slot}
use Rattle.rrc_name.specs.Key.{slot_eq, slot_order}
use Rattle.rrc_name.specs.Order.{canonical_order}

-- what a key is: the wire form of a name, and a slot of it
pub record KeyOf : Type 0 where
  pub name : List ℕ
  pub slot : Slot

-- whether the keys are the same, the wanted key first: the one word by which keys are compared
abbrev pub key_eq : KeyOf → KeyOf → Bool
key_eq wanted key = pointwise nat_eq wanted.name key.name && slot_eq wanted.slot key.slot

-- keys by the canonical order of their names, and then by slot, which is all between folded names; other names that tie go by
-- their octets before the slot: the one word by which keys are ordered
abbrev pub key_order : KeyOf → KeyOf → Ordering
key_order a b =
    ordering_then (canonical_order a.name b.name) (ordering_then (slice_cmp nat_cmp a.name b.name) (slot_order a.slot b.slot))
