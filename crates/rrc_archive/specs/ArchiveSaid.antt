-- SPDX-License-Identifier: MIT
-- How a line of an archive is read, and where it may stand: what private contracts say.
use Rattle.std.specs.Prelude.{◌≡◌, ℕ, List, [], ◌∷◌, ◌++◌, codes, bytes_eq, Option, Some, None, if◌then◌else◌}
use Rattle.rrc_history.specs.declared.event.Event.{Event}
use Rattle.rrc_history.specs.declared.snapshot.Entry.{Entry}
use Rattle.rrc_archive.specs.Archive.{WrittenOf}
use Rattle.rrc_archive.specs.ArchiveFields.{count_of, entry_of, offered_of, asked_of, swept_of}
use Rattle.rrc_archive.specs.ArchiveFits.{FitsEntry, FitsEvent}
use Rattle.rrc_archive.specs.ArchiveLaw.{IsNumber}
use Rattle.rrc_archive.specs.ArchiveLines.{said_text}
use Rattle.rrc_text.specs.Fields.{field_at, said_at}
use Rattle.rrc_text.specs.Gives.{◌>>=◌}
use Rattle.rrc_archive.specs.declared.read.said.Said.{Said}
use Rattle.rrc_archive.specs.declared.read.said.Said.TheVariants as said

-- what a line says: of a chapter its number, the number of its first event, and its rules
pub data SaidOf : Type 0 where
  head : (number first capacity chapter stale : ℕ) → SaidOf
  entry : Entry → SaidOf
  event : Event → SaidOf

abbrev pub told_by : Said → SaidOf
told_by (said.Chapter number first rules) = head number first rules.capacity rules.chapter rules.stale
told_by (said.Entry held) = entry held
told_by (said.Event told) = event told

-- the fields behind the word `chapter`
unfoldable pub head_of : List ℕ → Option SaidOf
head_of octets = do
  number ← said_at count_of octets
  first ← said_at count_of number.1
  capacity ← said_at count_of first.1
  chapter ← said_at count_of capacity.1
  stale ← said_at count_of chapter.1
  Some (head number.0 first.0 capacity.0 chapter.0 stale.0)

abbrev pub entry_said : List ℕ → Option SaidOf
entry_said octets = entry_of octets >>= λ held. Some (entry held)

abbrev pub event_said : Option Event → Option SaidOf
event_said told = told >>= λ told. Some (event told)

-- what the octets behind the word of a line say
abbrev pub said_as : List ℕ → List ℕ → Option SaidOf
said_as word octets =
    if bytes_eq word (codes "chapter") then head_of octets
    else if bytes_eq word (codes "entry") then entry_said octets
    else if bytes_eq word (codes "offer") then event_said (offered_of octets)
    else if bytes_eq word (codes "ask") then event_said (asked_of octets)
    else if bytes_eq word (codes "sweep") then event_said (swept_of octets)
    else None

-- what a line says without its LF
unfoldable pub said_of : List ℕ → Option SaidOf
said_of octets = field_at octets >>= λ word. said_as word.0 word.1

-- a line of an archive may say it
abbrev pub FitsSaid : Said → Type 0
FitsSaid (said.Chapter number first rules) = IsNumber number × IsNumber first
FitsSaid (said.Entry held) = FitsEntry held
FitsSaid (said.Event told) = FitsEvent told

-- the last of some chapters
pub record IsLast (chapters : List WrittenOf) (last : WrittenOf) : Type 0 where
  pub before : List WrittenOf
  pub whole : chapters ≡ before ++ last ∷ []

-- what may stand behind chapters: a chapter, an event of the last one, or an entry of it where it
-- has no event
abbrev pub MayFollow : List WrittenOf → Said → Type 0
MayFollow chapters (said.Chapter number first rules) = Unit {0}
MayFollow chapters (said.Entry held) = (last : WrittenOf) × (IsLast chapters last × (last.events ≡ []))
MayFollow chapters (said.Event told) = (last : WrittenOf) × IsLast chapters last

-- what a line says, with its LF, may not stand behind chapters
abbrev pub GoesOnNowhere : List WrittenOf → List ℕ → Type 0
GoesOnNowhere chapters line = (said : Said) → FitsSaid said → MayFollow chapters said → line ≡ said_text said ++ 10 ∷ [] → ⊥
