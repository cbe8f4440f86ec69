-- SPDX-License-Identifier: MIT
-- The key touched least recently.
use Rattle.std.specs.Prelude.{◌≡◌, ◌-◌, List, length, Option}
use Rattle.std.specs.List.{slice_get}
use Rattle.rrc_history.specs.declared.snapshot.Entry.{Entry}
use Rattle.rrc_history.specs.Past.{AreContents}
use Rattle.rrc_cache.specs.Part.{PartOf, past_of}

-- the last of entries, the key touched last first
abbrev pub last_of : List Entry → Option Entry
last_of entries = slice_get entries (length entries - 1)

-- whatever entries the keys of a part are said to hold, the one touched last first, this is the last
abbrev pub IsLast : PartOf → Option Entry → Type 0
IsLast part entry = (contents : List Entry) → AreContents part.snapshot (past_of part) contents → entry ≡ last_of contents
