-- SPDX-License-Identifier: MIT
-- A part of the cache, as its callers see it: the chapter of its history that is open.
use Rattle.std.specs.Prelude.{◌≡◌, ℕ, ◌+◌, ◌^◌, ◌<◌, ◌≤◌, ◌⊎◌, List, [], ◌∷◌, ◌++◌, length, reverse, Option, Result, Ok, Err}
use Rattle.rrc_name.specs.Key.{KeyOf}
use Rattle.rrc_history.specs.Asked.{AskOf}
use Rattle.rrc_history.specs.Fits.{OfferOf}
use Rattle.rrc_history.specs.declared.event.Event.TheVariants.{Offered, Asked, Swept}
use Rattle.rrc_history.specs.declared.event.Outcome.{Outcome}
use Rattle.rrc_history.specs.declared.event.Reply.{Reply}
use Rattle.rrc_history.specs.declared.event.Tag.{Tag}
use Rattle.rrc_history.specs.Lives.{LAST_MOMENT}
use Rattle.rrc_history.specs.Laws.{KeepsLaws}
use Rattle.rrc_history.specs.Right.{IsRight, IsLegal}
use Rattle.rrc_history.specs.Chapters.{ChapterOf, IsChapter}
use Rattle.rrc_history.specs.declared.event.Event.{Event}
use Rattle.rrc_history.specs.declared.snapshot.Snapshot.{Snapshot}
use Rattle.rrc_cache.specs.declared.refusal.Refusal.{Refusal}
use Rattle.rrc_cache.specs.declared.refusal.Refusal.TheVariants.{HistoryFull, MomentTooLarge, Memory}

-- the number of the chapter that is open, the snapshot that opened it, and the events since, the oldest first
pub record PartOf : Type 0 where
  pub number : ℕ
  pub snapshot : Snapshot
  pub events : List Event

-- the events of a part, the newest first
abbrev pub past_of : PartOf → List Event
past_of part = reverse part.events

-- the number of the next event
abbrev pub next_number : PartOf → ℕ
next_number part = part.snapshot.first + length part.events

-- the chapter has room for another event, which has a number below 2^62
pub record HasRoom (part : PartOf) : Type 0 where
  pub chapter : length part.events < part.snapshot.rules.chapter
  pub number : next_number part < 2 ^ 62

-- the chapter has as many events as it may, or the numbers are spent
abbrev pub IsSpent : PartOf → Type 0
IsSpent part = (part.snapshot.rules.chapter ≤ length part.events) ⊎ (2 ^ 62 ≤ next_number part)

-- the part could take a call at this moment
pub record IsOpen (part : PartOf) (at : ℕ) : Type 0 where
  pub room : HasRoom part
  pub moment : at ≤ LAST_MOMENT

-- when a call at a moment answers, and when it refuses with what
abbrev pub IsDue : {A : Type 0} → PartOf → ℕ → Result A Refusal → Type 0
IsDue part moment (Ok answer) = IsOpen part moment
IsDue part moment (Err HistoryFull) = IsSpent part
IsDue part moment (Err MomentTooLarge) = HasRoom part × (LAST_MOMENT < moment)
IsDue part moment (Err Memory) = IsOpen part moment

-- a refusal before anything is looked up
abbrev pub IsOfMoments : Refusal → Type 0
IsOfMoments HistoryFull = Unit {0}
IsOfMoments MomentTooLarge = Unit {0}
IsOfMoments Memory = ⊥

-- when a chapter is closed, and when that is refused with what: HistoryFull exactly where the chapter's number is 2^62
abbrev pub IsCloseDue : {A : Type 0} → PartOf → Result A Refusal → Type 0
IsCloseDue part (Ok chapter) = part.number < 2 ^ 62
IsCloseDue part (Err HistoryFull) = part.number ≡ 2 ^ 62
IsCloseDue part (Err MomentTooLarge) = ⊥
IsCloseDue part (Err Memory) = part.number < 2 ^ 62

-- a call wrote just this event, which is right after those before it and keeps the laws
pub record Adds (old new : PartOf) (event : Event) : Type 0 where
  pub number : new.number ≡ old.number
  pub snapshot : new.snapshot ≡ old.snapshot
  pub written : new.events ≡ old.events ++ event ∷ []
  pub right : IsRight old.snapshot (past_of old) event
  pub laws : KeepsLaws old.snapshot (past_of old) event

-- an offer was written, with what became of it and what it evicted
abbrev pub WritesOffer : PartOf → PartOf → Tag → OfferOf → Outcome → Type 0
WritesOffer old new tag offer outcome = (evicted : Option KeyOf) × Adds old new (Offered outcome tag offer evicted)

-- an ask was written, with its answer
abbrev pub WritesAsk : PartOf → PartOf → Tag → AskOf → Reply → Type 0
WritesAsk old new tag ask reply = Adds old new (Asked tag ask reply)

-- a sweep was written, with as many keys as were removed
abbrev pub WritesSweep : PartOf → PartOf → Tag → ℕ → ℕ → Type 0
WritesSweep old new tag moment removed = (gone : List KeyOf) × (length gone ≡ removed) × Adds old new (Swept tag moment gone)

-- the chapter that was open is handed out whole, and the part begins the next one with what it holds
pub record Closes (old new : PartOf) (chapter : ChapterOf) : Type 0 where
  pub number : chapter.number ≡ old.number
  pub snapshot : chapter.snapshot ≡ old.snapshot
  pub events : chapter.events ≡ old.events
  pub closes : IsChapter chapter
  pub next : new ≡ record { number = old.number + 1; snapshot = chapter.closing; events = [] }

-- a part's history is legal and keeps to its rules
pub record IsSound (part : PartOf) : Type 0 where
  pub legal : IsLegal part.snapshot (past_of part)
  pub few : length part.events ≤ part.snapshot.rules.chapter
  pub numbered : next_number part ≤ 2 ^ 62
  pub chapter : part.number ≤ 2 ^ 62
