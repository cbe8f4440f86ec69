-- SPDX-License-Identifier: MIT
-- Chapters of a history: a snapshot, the events since, and the snapshot that they lead to.
use Rattle.std.specs.Prelude.{◌≡◌, ℕ, ◌^◌, ◌<◌, List, [], reverse}
use Rattle.rrc_history.specs.declared.event.Event.{Event}
use Rattle.rrc_history.specs.declared.snapshot.Snapshot.{Snapshot}
use Rattle.rrc_history.specs.Past.{number_after, AreContents}
use Rattle.rrc_history.specs.Right.{IsLegal}
use Rattle.rrc_history.specs.Sound.{AreSound}

-- the number of a chapter, its snapshot, its events, the oldest first, and its closing
pub record ChapterOf : Type 0 where
  pub number : ℕ
  pub snapshot : Snapshot
  pub events : List Event
  pub closing : Snapshot

-- the snapshot that a past leads to: the same rules, the number of the event behind it, and what the keys hold then
pub record IsClosing (snapshot : Snapshot) (past : List Event) (closing : Snapshot) : Type 0 where
  pub rules : closing.rules ≡ snapshot.rules
  pub first : closing.first ≡ number_after snapshot past
  pub contents : AreContents snapshot past closing.entries

-- the events, the oldest first, are legal from the snapshot and lead to the closing
pub record LeadTo (snapshot : Snapshot) (events : List Event) (closing : Snapshot) : Type 0 where
  pub legal : IsLegal snapshot (reverse events)
  pub closes : IsClosing snapshot (reverse events) closing

-- a chapter has a number below 2^62, and its events are legal from its snapshot and lead to its closing
pub record IsChapter (chapter : ChapterOf) : Type 0 where
  pub numbered : chapter.number < 2 ^ 62
  pub leads : LeadTo chapter.snapshot chapter.events chapter.closing

-- a snapshot leads to itself where nothing happens: its places are the order of touch, all below its first number
abbrev pub SoundLeadsToItself : Type 0
SoundLeadsToItself = (snapshot : Snapshot) → AreSound snapshot.rules.capacity snapshot.first snapshot.entries → IsClosing snapshot [] snapshot
