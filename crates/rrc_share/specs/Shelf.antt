-- SPDX-License-Identifier: MIT
-- A part of the cache with the chapters that it closed.
use Rattle.std.specs.Prelude.{◌≡◌, ℕ, ◌+◌, ◌^◌, ◌<◌, ◌≤◌, ◌⊎◌, List, [], ◌∷◌, ◌++◌, length, reverse, Option, None, Result, Ok, Err}
use Rattle.rrc_name.specs.Key.{KeyOf}
use Rattle.rrc_history.specs.Asked.{AskOf}
use Rattle.rrc_history.specs.Fits.{OfferOf}
use Rattle.rrc_history.specs.declared.event.Event.{Event}
use Rattle.rrc_history.specs.declared.event.Event.TheVariants.{Offered, Asked, Swept}
use Rattle.rrc_history.specs.declared.event.Outcome.{Outcome}
use Rattle.rrc_history.specs.declared.event.Reply.{Reply}
use Rattle.rrc_history.specs.declared.event.Tag.{Tag}
use Rattle.rrc_history.specs.declared.snapshot.Snapshot.{Snapshot}
use Rattle.rrc_history.specs.Chapters.{ChapterOf, LeadTo}
use Rattle.rrc_history.specs.Chains.{chain_fault, events_of, last_closing}
use Rattle.rrc_history.specs.Laws.{KeepsLaws}
use Rattle.rrc_history.specs.Lives.{LAST_MOMENT}
use Rattle.rrc_history.specs.Past.{reply_to}
use Rattle.rrc_history.specs.Right.{IsRight}
use Rattle.rrc_cache.specs.Part.{PartOf, past_of, next_number, Adds, Closes}
use Rattle.rrc_cache.specs.declared.refusal.Refusal.{Refusal}
use Rattle.rrc_cache.specs.declared.refusal.Refusal.TheVariants.{HistoryFull, MomentTooLarge, Memory}

-- the closed chapters, the oldest first, and the part
pub record ShelfOf : Type 0 where
  pub closed : List ChapterOf
  pub part : PartOf

-- ---- the history of a shelf

-- the snapshot of the first closed chapter, or of the part where none is closed
abbrev pub first_snapshot : List ChapterOf → PartOf → Snapshot
first_snapshot [] part = part.snapshot
first_snapshot (chapter ∷ behind) part = chapter.snapshot

-- the snapshot that a shelf's history begins with
abbrev pub opening_of : ShelfOf → Snapshot
opening_of shelf = first_snapshot shelf.closed shelf.part

-- the events of the closed chapters, and then those of the part
abbrev pub history_of : ShelfOf → List Event
history_of shelf = events_of shelf.closed ++ shelf.part.events

-- the newest first
abbrev pub whole_past : ShelfOf → List Event
whole_past shelf = reverse (history_of shelf)

-- ---- what holds of every shelf

-- the number of the last of a chapter and those behind it
abbrev pub last_number : ChapterOf → List ChapterOf → ℕ
last_number chapter [] = chapter.number
last_number chapter (next ∷ behind) = last_number next behind

-- chapters chain, and the part goes on from the last: it begins with its closing, and has the next number
pub record GoesOn (chapter : ChapterOf) (behind : List ChapterOf) (part : PartOf) : Type 0 where
  pub chained : chain_fault (chapter ∷ behind) ≡ None
  pub snapshot : part.snapshot ≡ last_closing chapter behind
  pub number : part.number ≡ last_number chapter behind + 1

-- the part goes on from the closed chapters; where none is closed this asks nothing
abbrev pub AreBefore : List ChapterOf → PartOf → Type 0
AreBefore [] part = Unit {0}
AreBefore (chapter ∷ behind) part = GoesOn chapter behind part

-- the part goes on from the closed chapters, and their events lead to its snapshot
pub record IsShelf (shelf : ShelfOf) : Type 0 where
  pub before : AreBefore shelf.closed shelf.part
  pub leads : LeadTo (opening_of shelf) (events_of shelf.closed) shelf.part.snapshot

-- ---- what calls leave of a shelf

-- the chapter has as many events as it may
abbrev pub IsFull : PartOf → Type 0
IsFull part = part.snapshot.rules.chapter ≤ length part.events

-- the chapter has room for another event
abbrev pub IsWide : PartOf → Type 0
IsWide part = length part.events < part.snapshot.rules.chapter

-- the history is the same, and so is every reply
pub record IsSame (old new : ShelfOf) : Type 0 where
  pub opening : opening_of new ≡ opening_of old
  pub history : history_of new ≡ history_of old
  pub replies : (ask : AskOf) → reply_to new.part.snapshot (past_of new.part) ask ≡ reply_to old.part.snapshot (past_of old.part) ask

-- the chapter that was open is the last one closed, and the part is in the next
pub record ShelvesChapter (old new : ShelfOf) : Type 0 where
  pub chapter : ChapterOf
  pub closed : new.closed ≡ old.closed ++ chapter ∷ []
  pub part : Closes old.part new.part chapter
  pub same : IsSame old new

-- where the chapter was full it was closed, and else nothing was done
abbrev pub HasMadeRoom : ShelfOf → ShelfOf → Type 0
HasMadeRoom old new = (IsFull old.part × ShelvesChapter old new) ⊎ (IsWide old.part × (new ≡ old))

-- a chapter that is full was closed, and then just this event was written, which is right after the whole history and keeps the laws
pub record Appends (old new : ShelfOf) (event : Event) : Type 0 where
  pub middle : ShelfOf
  pub room : HasMadeRoom old middle
  pub closed : new.closed ≡ middle.closed
  pub adds : Adds middle.part new.part event
  pub opening : opening_of new ≡ opening_of old
  pub written : history_of new ≡ history_of old ++ event ∷ []
  pub right : IsRight (opening_of old) (whole_past old) event
  pub laws : KeepsLaws (opening_of old) (whole_past old) event

-- an offer was written, with what became of it and what it evicted
abbrev pub AppendsOffer : ShelfOf → ShelfOf → Tag → OfferOf → Outcome → Type 0
AppendsOffer old new tag offer outcome = (evicted : Option KeyOf) × Appends old new (Offered outcome tag offer evicted)

-- an ask was written, with its answer
abbrev pub AppendsAsk : ShelfOf → ShelfOf → Tag → AskOf → Reply → Type 0
AppendsAsk old new tag ask reply = Appends old new (Asked tag ask reply)

-- a sweep was written, with as many keys as were removed
abbrev pub AppendsSweep : ShelfOf → ShelfOf → Tag → ℕ → ℕ → Type 0
AppendsSweep old new tag moment removed = (gone : List KeyOf) × (length gone ≡ removed) × Appends old new (Swept tag moment gone)

-- nothing was done, or a chapter that was full was closed
abbrev pub IsLeft : ShelfOf → ShelfOf → Type 0
IsLeft old new = (new ≡ old) ⊎ (IsFull old.part × ShelvesChapter old new)

-- ---- when calls refuse

-- the next event has a number below 2^62, and where the chapter is full it can be closed
pub record CanWrite (part : PartOf) : Type 0 where
  pub number : next_number part < 2 ^ 62
  pub chapter : IsWide part ⊎ (part.number < 2 ^ 62)

-- the numbers of events are spent, or those of chapters where the chapter is full
abbrev pub IsShelfSpent : PartOf → Type 0
IsShelfSpent part = (2 ^ 62 ≤ next_number part) ⊎ (IsFull part × (part.number ≡ 2 ^ 62))

-- the shelf could take a call at this moment
pub record IsShelfOpen (part : PartOf) (at : ℕ) : Type 0 where
  pub room : CanWrite part
  pub moment : at ≤ LAST_MOMENT

-- when a call at a moment answers, and when it refuses with what
abbrev pub IsShelfDue : {A : Type 0} → PartOf → ℕ → Result A Refusal → Type 0
IsShelfDue part moment (Ok answer) = IsShelfOpen part moment
IsShelfDue part moment (Err HistoryFull) = IsShelfSpent part
IsShelfDue part moment (Err MomentTooLarge) = CanWrite part × (LAST_MOMENT < moment)
IsShelfDue part moment (Err Memory) = IsShelfOpen part moment
