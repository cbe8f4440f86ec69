-- SPDX-License-Identifier: MIT
-- Reading a name, item by item (RFC 1035 4.1.4).
use Rattle.std.specs.Prelude.{◌≡◌, ℕ, zero, suc, ◌+◌, List, [], ◌∷◌, ◌++◌, length, slice_range, Option, Some, None, unwrap_or, Result, Ok, Err}
use Rattle.rrc_wire.specs.declared.fault.WireFault.{WireFault}
use Rattle.rrc_wire.specs.declared.fault.WireFault.TheVariants.{BadPointer}
use Rattle.rrc_wire.specs.Item.{End, Label, Pointer, RunOf, item_at, to_end}
use Rattle.rrc_wire.specs.Reading.{◌>>=◌}

-- the name that goes on at a place behind its labels so far, and the place behind the name, which is `behind` where a
-- pointer was met. Each item lowers `run.start + 256 - length before`, so more items than that are never met
abbrev pub name_from : ℕ → List ℕ → RunOf → List ℕ → Option ℕ → ℕ → Result (List ℕ × ℕ) WireFault
name_from zero message run before behind place = Err BadPointer
name_from (suc items) message run before behind place =
    item_at message run (length before) place >>= λ item. elim item [
      | End ↦ Ok (before ++ 0 ∷ [], unwrap_or behind (place + 1))
      | Label size ↦ let next = place + 1 + size in name_from items message run (before ++ slice_range message place next) behind next
      | Pointer target ↦ name_from items message (to_end message target) before (Some (unwrap_or behind (place + 2))) target
    ]

-- the name whose first run is given, and the place behind it
abbrev pub name_at : List ℕ → RunOf → Result (List ℕ × ℕ) WireFault
name_at message first = name_from (first.start + 256) message first [] None first.start

-- the name that stands at a place of the message
abbrev pub standing_at : List ℕ → ℕ → Result (List ℕ) WireFault
standing_at message place = name_at message (to_end message place) >>= λ read. Ok read.0

-- a name stands at a place of the message
abbrev pub IsNameAt : List ℕ → ℕ → List ℕ → Type 0
IsNameAt message place name = standing_at message place ≡ Ok name
