-- SPDX-License-Identifier: MIT
-- How many entries stand before that of a key, the key touched last first.
use Rattle.std.specs.Prelude.{◌≤◌, ℕ, ◌+◌, List, [], ◌∷◌, Option, Some, None, if◌then◌else◌}
use Rattle.rrc_name.specs.declared.slot.Slot.{Slot}
use Rattle.rrc_name.specs.declared.slot.Slot.TheVariants.{Set, Nx, Failed}
use Rattle.rrc_name.specs.Key.{KeyOf, key_eq}
use Rattle.rrc_history.specs.declared.snapshot.Entry.{Entry}
use Rattle.rrc_history.specs.Past.{AreContents}
use Rattle.rrc_cache.specs.Part.{PartOf, past_of}

-- how many entries stand before the first of a key
abbrev pub ahead_of : KeyOf → List Entry → ℕ
ahead_of key [] = 0
ahead_of key (entry ∷ entries) = if key_eq key entry.key then 0 else ahead_of key entries + 1

-- which of two ages is that of a slot
abbrev pub slot_age : Slot → ℕ → ℕ → ℕ
slot_age (Set rtype) set nx = set
slot_age Nx set nx = nx
slot_age (Failed rtype) set nx = set

-- the age of the entry that governs an ask: by its slot that of the set, or of the NXDOMAIN
abbrev pub age_by : Option Entry → ℕ → ℕ → ℕ
age_by None set nx = 0
age_by (Some entry) set nx = slot_age entry.key.slot set nx

-- whatever entries the keys of a part are said to hold, the one touched last first, at most so many stand before that of the key
abbrev pub StandsWithin : PartOf → KeyOf → ℕ → Type 0
StandsWithin part key age = (contents : List Entry) → AreContents part.snapshot (past_of part) contents → ahead_of key contents ≤ age
