-- SPDX-License-Identifier: MIT
-- A part that keeps no events: what its history is told, and what it keeps of that.
use Rattle.std.specs.Prelude.{◌≡◌, ℕ, ◌+◌, ◌^◌, ◌<◌, ◌≤◌, List, [], ◌∷◌, ◌++◌, length, Option, Result, Ok, Err}
use Rattle.rrc_name.specs.declared.slot.Slot.{Slot}
use Rattle.rrc_history.specs.declared.event.Event.{Event}
use Rattle.rrc_history.specs.declared.rules.Rules.{Rules}
use Rattle.rrc_history.specs.declared.snapshot.Snapshot.{Snapshot}
use Rattle.rrc_history.specs.Asked.{AskOf}
use Rattle.rrc_history.specs.Chapters.{IsChapter}
use Rattle.rrc_history.specs.Lives.{LAST_MOMENT}
use Rattle.rrc_history.specs.declared.snapshot.Entry.{Entry}
use Rattle.rrc_history.specs.Past.{AreContents, reply_to}
use Rattle.rrc_history.specs.Right.{IsLegal}
use Rattle.rrc_cache.specs.Calls.{Leaves}
use Rattle.rrc_cache.specs.Expiry.{swept_until}
use Rattle.rrc_cache.specs.Pairs.{StoreOf}
use Rattle.rrc_cache.specs.Part.{PartOf, past_of, next_number}
use Rattle.rrc_cache.specs.Taken.{IsMove}
use Rattle.rrc_cache.specs.declared.refusal.Refusal.{Refusal}
use Rattle.rrc_cache.specs.declared.refusal.Refusal.TheVariants.{HistoryFull, MomentTooLarge, Memory}

-- the first chapter, with no events
abbrev pub first_chapter : Rules → PartOf
first_chapter rules = record { number = 1; snapshot = record { rules = rules; first = 0; entries = [] }; events = [] }

-- the second chapter, which begins with a snapshot
abbrev pub begun_with : Snapshot → PartOf
begun_with snapshot = record { number = 2; snapshot = snapshot; events = [] }

-- one more event
abbrev pub with_event : PartOf → Event → PartOf
with_event part event = record { number = part.number; snapshot = part.snapshot; events = part.events ++ event ∷ [] }

-- the next chapter, which begins with what the one before left
abbrev pub next_chapter : PartOf → Snapshot → PartOf
next_chapter part closing = record { number = part.number + 1; snapshot = closing; events = [] }

-- whatever entries the keys of a part are said to hold, moving the one of the slot to the front, if there is a slot, is moving
-- the one that answers an ask, if one does
abbrev pub IsPick : PartOf → AskOf → Option Slot → Type 0
IsPick part ask slot =
    (contents : List Entry) → AreContents part.snapshot (past_of part) contents → IsMove ask contents (reply_to part.snapshot (past_of part) ask) slot

-- a part that keeps no events could take a call at this moment: the next event has a number below 2^62
pub record IsLeanOpen (part : PartOf) (at : ℕ) : Type 0 where
  pub number : next_number part < 2 ^ 62
  pub moment : at ≤ LAST_MOMENT

-- when a call at a moment answers, and when it refuses with what: no chapter is ever full, so
-- HistoryFull is that the numbers are spent
abbrev pub IsLeanDue : {A : Type 0} → PartOf → ℕ → Result A Refusal → Type 0
IsLeanDue part moment (Ok answer) = IsLeanOpen part moment
IsLeanDue part moment (Err HistoryFull) = 2 ^ 62 ≤ next_number part
IsLeanDue part moment (Err MomentTooLarge) = (next_number part < 2 ^ 62) × (LAST_MOMENT < moment)
IsLeanDue part moment (Err Memory) = IsLeanOpen part moment

-- when a snapshot is restored, and when that is refused with what: HistoryFull exactly where its
-- first event has a number above 2^62
abbrev pub IsRestoreDue : {A : Type 0} → Snapshot → Result A Refusal → Type 0
IsRestoreDue snapshot (Ok part) = snapshot.first ≤ 2 ^ 62
IsRestoreDue snapshot (Err HistoryFull) = 2 ^ 62 < snapshot.first
IsRestoreDue snapshot (Err MomentTooLarge) = ⊥
IsRestoreDue snapshot (Err Memory) = snapshot.first ≤ 2 ^ 62

-- its history is legal, and has numbers left
pub record IsLeanSound (part : PartOf) : Type 0 where
  pub legal : IsLegal part.snapshot (past_of part)
  pub numbered : next_number part ≤ 2 ^ 62
  pub chapter : part.number ≤ 2 ^ 62

-- a part that keeps no events keeps what its history leaves, the key touched last first, and of the
-- history the number of its chapter, that of its next event, its rules, and until when a sweep left
-- nothing that is fully expired
pub record HoldsLean (part : PartOf) (number next : ℕ) (rules : Rules) (store : StoreOf) (swept : ℕ) : Type 0 where
  pub sound : IsLeanSound part
  pub leaves : Leaves part.snapshot (past_of part) store.entries
  pub stale : store.stale ≡ part.snapshot.rules.stale
  pub chapter : number ≡ part.number
  pub following : next ≡ next_number part
  pub ruled : rules ≡ part.snapshot.rules
  pub sweeps : swept ≡ swept_until (past_of part)

-- the chapter that was open ends with what the part holds, and the next one begins with that
pub record Shuts (old new : PartOf) (closing : Snapshot) : Type 0 where
  pub closes : IsChapter (record { number = old.number; snapshot = old.snapshot; events = old.events; closing = closing })
  pub next : new ≡ next_chapter old closing

-- the history of a part is recorded: the snapshot and the events are kept, and are no more than the rules say
pub record IsRecorded (part : PartOf) (opening : Snapshot) (written : List Event) : Type 0 where
  pub snapshot : part.snapshot ≡ opening
  pub events : part.events ≡ written
  pub few : length part.events ≤ part.snapshot.rules.chapter
