-- SPDX-License-Identifier: MIT
-- What an archive tells: a history, or why it tells none.
use Rattle.std.specs.Prelude.{◌≡◌, ◌⊎◌, ◌+◌, ◌<◌, ◌≤◌, ◌^◌, ℕ, List, [], ◌∷◌, ◌++◌, codes, length, map, Some, None}
use Rattle.std.specs.Fmt.{decimal}
use Rattle.std.specs.List.{AllByRecursion, flat_map}
use Rattle.rrc_cache.specs.declared.classless.ChapterFault.{ChapterFault}
use Rattle.rrc_cache.specs.declared.classless.ChapterFault.TheVariants as refusal
use Rattle.rrc_cache.specs.declared.restored.NotRestored.{NotRestored}
use Rattle.rrc_history.specs.declared.rules.Rules.{Rules}
use Rattle.rrc_history.specs.declared.event.Event.{Event}
use Rattle.rrc_history.specs.declared.snapshot.Entry.{Entry}
use Rattle.rrc_history.specs.declared.chains.ChainFault.{ChainFault}
use Rattle.rrc_history.specs.declared.snapshot.Snapshot.{Snapshot}
use Rattle.rrc_history.specs.declared.snapshot.SnapshotFault.{SnapshotFault}
use Rattle.rrc_history.specs.Audits.{IsFirstBad}
use Rattle.rrc_history.specs.Chains.{WholeOf, IsWhole, chain_fault}
use Rattle.rrc_history.specs.Chapters.{ChapterOf, IsChapter}
use Rattle.rrc_history.specs.Faults.{chain_fault_text, snapshot_fault_text}
use Rattle.rrc_history.specs.Snapshots.{snapshot_fault}
use Rattle.rrc_archive.specs.Archive.{WrittenOf, written_of, archive_text, lines_of}
use Rattle.rrc_archive.specs.ArchiveFaults.{StopsAt}
use Rattle.rrc_archive.specs.ArchiveLaw.{HoldsChapter, IsOnlyArchive}
use Rattle.rrc_replay.specs.declared.unlawful.Reason.{Reason}
use Rattle.rrc_replay.specs.Unlawful.{IsWhyUnlawful}
use Rattle.rrc_replay.specs.declared.history.Counted.{Counted}
use Rattle.rrc_replay.specs.declared.history.HistoryFault.{HistoryFault}
use Rattle.rrc_replay.specs.declared.history.HistoryFault.TheVariants.{Empty, BadLine, BadEntry, BadNumber, NotLegal, Broken, Memory}

-- the octets are what is written of these chapters, which Rust can hold, and of no others that it can
pub record IsArchiveOf (octets : List ℕ) (chapters : List WrittenOf) : Type 0 where
  pub written : octets ≡ archive_text chapters
  pub held : AllByRecursion HoldsChapter chapters
  pub only : IsOnlyArchive octets chapters

-- the octets are the archive of these chapters, and each is legal in itself
pub record AreChapters (octets : List ℕ) (chapters : List ChapterOf) : Type 0 where
  pub archive : IsArchiveOf octets (map written_of chapters)
  pub legal : AllByRecursion IsChapter chapters

-- the octets tell these chapters, which go on from one another, and are this history
pub record AreHistory (octets : List ℕ) (chapters : List ChapterOf) (whole : WholeOf) : Type 0 where
  pub are : AreChapters octets chapters
  pub chained : chain_fault chapters ≡ None
  pub joined : IsWhole chapters whole

-- the octets tell a history, in some chapters
abbrev pub TellsHistory : List ℕ → WholeOf → Type 0
TellsHistory octets whole = (chapters : List ChapterOf) × AreHistory octets chapters whole

-- the octets tell a history, in so many chapters
abbrev pub TellsCounted : List ℕ → Counted → Type 0
TellsCounted octets counted = (chapters : List ChapterOf) × (length chapters ≡ counted.chapters) × AreHistory octets chapters counted.whole

-- the octets are the archive of some chapters, and this holds of the one at a place
pub record TellsChapter (octets : List ℕ) (place : ℕ) (Holds : List WrittenOf → WrittenOf → Type 0) : Type 0 where
  pub before : List WrittenOf
  pub chapter : WrittenOf
  pub behind : List WrittenOf
  pub archive : IsArchiveOf octets (before ++ chapter ∷ behind)
  pub at : place ≡ length before
  pub so : Holds before chapter

-- the octets tell chapters, each legal in itself, which are no history
pub record TellsBroken (octets : List ℕ) (fault : ChainFault) : Type 0 where
  pub chapters : List ChapterOf
  pub are : AreChapters octets chapters
  pub broken : chain_fault chapters ≡ Some fault

-- what a chapter is told to begin with
abbrev pub opening_of : WrittenOf → Snapshot
opening_of chapter = record { rules = chapter.rules; first = chapter.first; entries = chapter.entries }

-- the line of an event, counted from 0: before it come the lines of the chapters before its own,
-- the head of its own, a line for each entry, and the events before it
abbrev pub line_of : List WrittenOf → List Entry → ℕ → ℕ
line_of before entries event = length (flat_map lines_of before) + (1 + length entries + event)

-- the entries of a chapter are no snapshot
abbrev pub HasBadEntry : SnapshotFault → WrittenOf → Type 0
HasBadEntry fault chapter = snapshot_fault chapter.rules chapter.first chapter.entries ≡ Some fault

-- no chapter that is closed has the number
abbrev pub HasBadNumber : WrittenOf → Type 0
HasBadNumber chapter = (chapter.number ≡ 0) ⊎ (2 ^ 62 ≤ chapter.number)

-- the event at a place is the first of the chapter that is not right, for this reason, and on this line
abbrev pub HasBadEvent : ℕ → ℕ → Reason → List WrittenOf → WrittenOf → Type 0
HasBadEvent event line reason before chapter =
    IsWhyUnlawful (opening_of chapter) chapter.events event reason × (line ≡ line_of before chapter.entries event)

-- the text of why octets tell no history
abbrev pub fault_text : HistoryFault → List ℕ
fault_text Empty = codes "the archive has no chapters"
fault_text (BadLine line) = codes "line " ++ (decimal line ++ codes " is not a line of an archive")
fault_text (BadEntry chapter fault) =
    codes "chapter " ++ (decimal chapter ++ (codes " begins with entries that no part holds: " ++ snapshot_fault_text fault))
fault_text (BadNumber chapter) = codes "chapter " ++ (decimal chapter ++ codes " has a number that no closed chapter has")
fault_text (NotLegal chapter event line reason) =
    codes "event " ++ (decimal event ++ (codes " of chapter " ++ (decimal chapter ++ codes " is not right after those before it")))
fault_text (Broken fault) = chain_fault_text fault
fault_text Memory = codes "memory was refused"

-- why octets tell no history; of a bad line that octets are an archive up to it, and with it none
abbrev pub IsWhyNoHistory : List ℕ → HistoryFault → Type 0
IsWhyNoHistory octets Empty = octets ≡ []
IsWhyNoHistory octets (BadLine line) = StopsAt octets line
IsWhyNoHistory octets (BadEntry chapter fault) = TellsChapter octets chapter (λ before. HasBadEntry fault)
IsWhyNoHistory octets (BadNumber chapter) = TellsChapter octets chapter (λ before. HasBadNumber)
IsWhyNoHistory octets (NotLegal chapter event line reason) = TellsChapter octets chapter (HasBadEvent event line reason)
IsWhyNoHistory octets (Broken fault) = TellsBroken octets fault
IsWhyNoHistory octets Memory = Unit {0}

-- why the chapter that is told behind others is none: its entries, its number, an event, or that memory was refused
abbrev pub IsFaultBehind : List ChapterOf → WrittenOf → HistoryFault → Type 0
IsFaultBehind before chapter Empty = ⊥
IsFaultBehind before chapter (BadLine line) = ⊥
IsFaultBehind before chapter (BadEntry at fault) = (at ≡ length before) × HasBadEntry fault chapter
IsFaultBehind before chapter (BadNumber at) = (at ≡ length before) × HasBadNumber chapter
IsFaultBehind before chapter (NotLegal at event line reason) = (at ≡ length before) × HasBadEvent event line reason (map written_of before) chapter
IsFaultBehind before chapter (Broken fault) = ⊥
IsFaultBehind before chapter Memory = Unit {0}

-- the entries of the chapter at a place are no snapshot, or memory was refused
abbrev pub IsNoOpening : ℕ → Rules → ℕ → List Entry → HistoryFault → Type 0
IsNoOpening place rules first entries Empty = ⊥
IsNoOpening place rules first entries (BadLine line) = ⊥
IsNoOpening place rules first entries (BadEntry at fault) = (at ≡ place) × (snapshot_fault rules first entries ≡ Some fault)
IsNoOpening place rules first entries (BadNumber at) = ⊥
IsNoOpening place rules first entries (NotLegal at event line reason) = ⊥
IsNoOpening place rules first entries (Broken fault) = ⊥
IsNoOpening place rules first entries Memory = Unit {0}

-- an event that is told is the first that is not right
abbrev pub IsSoOf : NotRestored → ChapterFault → Type 0
IsSoOf refused refusal.BadNumber = Unit {0}
IsSoOf refused (refusal.NotLegal event) = IsFirstBad refused.snapshot refused.events.items event
IsSoOf refused refusal.Memory = Unit {0}

abbrev pub HasWhy : NotRestored → Type 0
HasWhy refused = IsSoOf refused refused.fault

-- why there is no chapter behind others, told with its place
abbrev pub IsToldBehind : List ChapterOf → NotRestored → HistoryFault → Type 0
IsToldBehind before refused Empty = ⊥
IsToldBehind before refused (BadLine line) = ⊥
IsToldBehind before refused (BadEntry at fault) = ⊥
IsToldBehind before refused (BadNumber at) = (at ≡ length before) × (refused.fault ≡ refusal.BadNumber)
IsToldBehind before refused (NotLegal at event line reason) =
    (at ≡ length before)
    × (IsWhyUnlawful refused.snapshot refused.events.items event reason × (line ≡ line_of (map written_of before) refused.snapshot.entries event))
IsToldBehind before refused (Broken fault) = ⊥
IsToldBehind before refused Memory = Unit {0}

-- the lines of chapters, and those of one more up to its last event, are fewer than 2^64
abbrev pub AreLinesFew : List ChapterOf → List Entry → List Event → Type 0
AreLinesFew before entries events = line_of (map written_of before) entries (length events) < 2 ^ 64

-- why chapters are no history, or that memory was refused
abbrev pub IsWhyBroken : List ChapterOf → HistoryFault → Type 0
IsWhyBroken chapters Empty = ⊥
IsWhyBroken chapters (BadLine line) = ⊥
IsWhyBroken chapters (BadEntry at fault) = ⊥
IsWhyBroken chapters (BadNumber at) = ⊥
IsWhyBroken chapters (NotLegal at event line reason) = ⊥
IsWhyBroken chapters (Broken fault) = chain_fault chapters ≡ Some fault
IsWhyBroken chapters Memory = Unit {0}
