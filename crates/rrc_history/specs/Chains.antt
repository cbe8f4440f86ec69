-- SPDX-License-Identifier: MIT
-- Chapters that chain: where one doesn't go on from the one before it, and the whole history that they are else.
use Rattle.std.specs.Prelude.{◌≡◌, ◌⊎◌, ℕ, ◌+◌, List, [], ◌∷◌, ◌++◌, Bool, not, ◌&&◌, ◌==◌, if◌then◌else◌, Option, Some, None}
use Rattle.std.specs.Option.{option_or}
use Rattle.rrc_history.specs.declared.event.Event.{Event}
use Rattle.rrc_history.specs.declared.chains.ChainFault.{ChainFault}
use Rattle.rrc_history.specs.declared.chains.ChainFault.TheVariants.{NumberGap, NotTheSameContents, Memory}
use Rattle.rrc_history.specs.declared.snapshot.Snapshot.{Snapshot}
use Rattle.rrc_history.specs.Chapters.{ChapterOf}
use Rattle.rrc_history.specs.Equality.{snapshot_eq}

-- the snapshot of a history, its events, the oldest first, and its closing
pub record WholeOf : Type 0 where
  pub snapshot : Snapshot
  pub events : List Event
  pub closing : Snapshot

-- a chapter has the next number, and its events begin with the next number
abbrev pub follows : ChapterOf → ChapterOf → Bool
follows before chapter = chapter.number == before.number + 1 && chapter.snapshot.first == before.closing.first

-- what is wrong with a chapter at a place behind another: its numbers, or that it begins with other contents or rules
abbrev pub link_fault : ℕ → ChapterOf → ChapterOf → Option ChainFault
link_fault place before chapter =
    if not (follows before chapter) then Some (NumberGap place)
    else if not (snapshot_eq before.closing chapter.snapshot) then Some (NotTheSameContents place)
    else None

-- the first fault of chapters behind another, the first of them at a place
abbrev pub fault_from : ℕ → ChapterOf → List ChapterOf → Option ChainFault
fault_from place before [] = None
fault_from place before (chapter ∷ behind) = option_or (link_fault place before chapter) (fault_from (place + 1) chapter behind)

-- the first fault of a list of chapters, if it has one; that there are none is a gap
abbrev pub chain_fault : List ChapterOf → Option ChainFault
chain_fault [] = Some (NumberGap 0)
chain_fault (chapter ∷ behind) = fault_from 1 chapter behind

-- why chapters are no history: their first fault, or where they have none, that memory was refused
abbrev pub IsWhyNot : List ChapterOf → ChainFault → Type 0
IsWhyNot chapters fault = (chain_fault chapters ≡ Some fault) ⊎ ((fault ≡ Memory) × (chain_fault chapters ≡ None))

-- the events of chapters, one after another
abbrev pub events_of : List ChapterOf → List Event
events_of [] = []
events_of (chapter ∷ behind) = chapter.events ++ events_of behind

-- the last closing of a chapter and those behind it
abbrev pub last_closing : ChapterOf → List ChapterOf → Snapshot
last_closing chapter [] = chapter.closing
last_closing chapter (next ∷ behind) = last_closing next behind

-- the first snapshot, all events in order, and the last closing
abbrev pub IsWhole : List ChapterOf → WholeOf → Type 0
IsWhole [] whole = ⊥
IsWhole (chapter ∷ behind) whole =
    (whole.snapshot ≡ chapter.snapshot) × (whole.events ≡ events_of (chapter ∷ behind)) × (whole.closing ≡ last_closing chapter behind)
