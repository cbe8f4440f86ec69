-- SPDX-License-Identifier: MIT
-- The items of a name, in the order of their faults (RFC 1035 4.1.4).
use Rattle.std.specs.Prelude.{ℕ, ◌+◌, ◌%◌, ◌^◌, ◌==◌, nat_lt, nat_le, List, slice_index, length, if◌then◌else◌, Result, Ok, Err}
use Rattle.rrc_wire.specs.declared.fault.WireFault.{WireFault}
use Rattle.rrc_wire.specs.declared.fault.WireFault.TheVariants.{Short, BadData, ReservedLabel, BadPointer, NameTooLong}
use Rattle.rrc_wire.specs.Reading.{word_at}

-- what stands at a place of a name: its end, a label of so many octets, or a pointer to a place
pub data ItemOf : Type 0 where
  End : ItemOf
  Label : ℕ → ItemOf
  Pointer : ℕ → ItemOf

-- a run of labels: where it began, the place that it may not pass, and the fault of passing it
pub record RunOf : Type 0 where
  pub start : ℕ
  pub end : ℕ
  pub past : WireFault

-- the run that begins at a place and may read up to the message's end
abbrev pub to_end : List ℕ → ℕ → RunOf
to_end message start = record { start = start; end = length message; past = Short }

-- the run that begins in the data of a record, which end at `end`
abbrev pub in_data : ℕ → ℕ → RunOf
in_data start end = record { start = start; end = end; past = BadData }

-- where a pointer leads: the low 14 bits count from the message's first octet
abbrev pub target_at : List ℕ → ℕ → ℕ
target_at message place = word_at message place % 2 ^ 14

-- a label of so many octets, in a name that has `size` octets before it; one more octet ends the name
abbrev pub label_at : RunOf → ℕ → ℕ → ℕ → Result ItemOf WireFault
label_at run size place octets =
    if nat_lt 255 (size + octets + 2) then Err NameTooLong
    else if nat_lt run.end (place + 1 + octets) then Err run.past
    else Ok (Label octets)

-- a pointer leads to a place lower than the one where its run began
abbrev pub pointer_at : List ℕ → RunOf → ℕ → Result ItemOf WireFault
pointer_at message run place =
    if nat_lt run.end (place + 2) then Err run.past
    else if nat_lt (target_at message place) run.start then Ok (Pointer (target_at message place))
    else Err BadPointer

-- the item at a place, of a name that has so many octets before it
abbrev pub item_at : List ℕ → RunOf → ℕ → ℕ → Result ItemOf WireFault
item_at message run size place =
    let octet = slice_index message place in
    if nat_le run.end place then Err run.past
    else if octet == 0 then Ok End
    else if nat_lt octet 64 then label_at run size place octet
    else if nat_lt octet 192 then Err ReservedLabel
    else pointer_at message run place
