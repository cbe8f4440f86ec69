-- SPDX-License-Identifier: MIT
-- Between two calls a part begins to record its history, or stops.
use Rattle.std.specs.Prelude.{◌≡◌, ◌+◌, [], ◌∷◌, None, Result, Ok, Err}
use Rattle.rrc_name.specs.Key.{KeyOf}
use Rattle.rrc_history.specs.declared.snapshot.Snapshot.{Snapshot}
use Rattle.rrc_history.specs.Asked.{AskOf}
use Rattle.rrc_history.specs.Chains.{chain_fault}
use Rattle.rrc_history.specs.Chapters.{ChapterOf, IsChapter}
use Rattle.rrc_history.specs.Past.{held, reply_to}
use Rattle.rrc_history.specs.Sound.{AreSound}
use Rattle.rrc_cache.specs.Part.{PartOf, past_of}
use Rattle.rrc_cache.specs.declared.recording.NotRecorded.{NotRecorded}
use Rattle.rrc_cache.specs.declared.refusal.Refusal.{Refusal}

-- the chapter that is open, were it to end with this
abbrev pub chapter_until : PartOf → Snapshot → ChapterOf
chapter_until part closing =
    record { number = part.number; snapshot = part.snapshot; events = part.events; closing = closing }

-- the chapter that was open, of which nothing was recorded, ends with what the part holds; the next
-- one, which is recorded, begins with that: each key holds what it held, each ask has its reply
pub record BeginsRecorded (old new : PartOf) : Type 0 where
  pub ends : IsChapter (chapter_until old new.snapshot)
  pub number : new.number ≡ old.number + 1
  pub events : new.events ≡ []
  pub keeps : (key : KeyOf)
      → held new.snapshot (past_of new) key ≡ held old.snapshot (past_of old) key
  pub replies : (ask : AskOf)
      → reply_to new.snapshot (past_of new) ask ≡ reply_to old.snapshot (past_of old) ask

-- why a part does not record, without that part
abbrev pub refused_by : {A : Type 0} → Result A NotRecorded → Result A Refusal
refused_by (Ok answer) = Ok answer
refused_by (Err refused) = Err refused.refusal

-- ---- between two records

-- a chapter in which nothing happens
abbrev pub idle_chapter : PartOf → ChapterOf
idle_chapter part =
    record { number = part.number; snapshot = part.snapshot; events = []; closing = part.snapshot }

-- nothing was written between the end of one record, whose last chapter this is, and the next one
pub record IsIdle (last : ChapterOf) (between : PartOf) : Type 0 where
  pub number : between.number ≡ last.number + 1
  pub snapshot : between.snapshot ≡ last.closing
  pub sound : AreSound between.snapshot.rules.capacity between.snapshot.first between.snapshot.entries
  pub none : between.events ≡ []

-- the chapter is the first of a record
pub record IsFirstRecorded (part : PartOf) (chapter : ChapterOf) : Type 0 where
  pub number : chapter.number ≡ part.number
  pub snapshot : chapter.snapshot ≡ part.snapshot

-- where nothing was written between two records, they chain with one idle chapter between them
abbrev pub RecordsChain : Type 0
RecordsChain =
    (last first : ChapterOf) (between new : PartOf) → IsIdle last between
    → BeginsRecorded between new → IsFirstRecorded new first
    → chain_fault (last ∷ idle_chapter between ∷ first ∷ []) ≡ None
