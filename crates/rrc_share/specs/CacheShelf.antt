-- SPDX-License-Identifier: MIT
-- A shelf that records its history, or does not.
use Rattle.std.specs.Prelude.{◌≡◌, ℕ, [], Bool, true, false, Option, Result}
use Rattle.rrc_name.specs.Key.{KeyOf}
use Rattle.rrc_history.specs.Asked.{AskOf}
use Rattle.rrc_history.specs.Fits.{OfferOf}
use Rattle.rrc_history.specs.Past.{held, reply_to}
use Rattle.rrc_history.specs.declared.event.Outcome.{Outcome}
use Rattle.rrc_history.specs.declared.event.Reply.{Reply}
use Rattle.rrc_history.specs.declared.event.Tag.{Tag}
use Rattle.rrc_history.specs.declared.snapshot.Entry.{Entry}
use Rattle.rrc_cache.specs.Lean.{IsLeanDue, IsLeanSound}
use Rattle.rrc_cache.specs.Part.{PartOf, past_of, IsSound, WritesOffer, WritesAsk, WritesSweep}
use Rattle.rrc_cache.specs.declared.refusal.Refusal.{Refusal}
use Rattle.rrc_share.specs.Shelf.{ShelfOf, AppendsOffer, AppendsAsk, AppendsSweep, IsShelfDue, IsLeft, IsShelf, ShelvesChapter}
use Rattle.rrc_share.specs.declared.state.ShelfState.{ShelfState}
use Rattle.rrc_share.specs.declared.state.ShelfState.TheVariants.{Lean, Recorded}

-- whether the history is recorded, and the closed chapters and the part
pub record CacheShelfOf : Type 0 where
  pub records : Bool
  pub shelf : ShelfOf

-- a part that records nothing has no closed chapters
abbrev pub lean_shelf : PartOf → ShelfOf
lean_shelf part = record { closed = []; part = part }

abbrev pub shelf_in : ShelfState → CacheShelfOf
shelf_in (Lean part) = record { records = false; shelf = lean_shelf part }
shelf_in (Recorded shelf) = record { records = true; shelf = shelf }

-- what holds of every part: its history is legal; of one that records, what holds of a shelf holds
-- too, and one that does not has no closed chapters
abbrev pub IsSoundBy : Bool → ShelfOf → Type 0
IsSoundBy true shelf = IsShelf shelf × IsSound shelf.part
IsSoundBy false shelf = (shelf.closed ≡ []) × IsLeanSound shelf.part

-- what a key of the part holds
abbrev pub held_by : ShelfOf → KeyOf → Option Entry
held_by shelf key = held shelf.part.snapshot (past_of shelf.part) key

-- the reply that the part has for an ask
abbrev pub reply_of : ShelfOf → AskOf → Reply
reply_of shelf ask = reply_to shelf.part.snapshot (past_of shelf.part) ask

-- an ask was written, with the reply that the part had for it; no chapter was closed
abbrev pub NotesAsk : ShelfOf → ShelfOf → Tag → AskOf → Type 0
NotesAsk old new tag ask = WritesAsk old.part new.part tag ask (reply_of old ask)

-- ---- calls, by whether the history is recorded: if so, those of a shelf; if not, the history goes
-- on by just this event, which is right and keeps the laws, and no chapter is closed

-- an offer was written, with what became of it and what it evicted
abbrev pub TakesOffer : Bool → ShelfOf → ShelfOf → Tag → OfferOf → Outcome → Type 0
TakesOffer true old new tag offer outcome = AppendsOffer old new tag offer outcome
TakesOffer false old new tag offer outcome = WritesOffer old.part new.part tag offer outcome

-- an ask was written, with its answer
abbrev pub TakesAsk : Bool → ShelfOf → ShelfOf → Tag → AskOf → Reply → Type 0
TakesAsk true old new tag ask reply = AppendsAsk old new tag ask reply
TakesAsk false old new tag ask reply = WritesAsk old.part new.part tag ask reply

-- a sweep was written, with as many keys as were removed
abbrev pub TakesSweep : Bool → ShelfOf → ShelfOf → Tag → ℕ → ℕ → Type 0
TakesSweep true old new tag moment removed = AppendsSweep old new tag moment removed
TakesSweep false old new tag moment removed = WritesSweep old.part new.part tag moment removed

-- the chapter that was open is closed; while nothing is recorded nothing is done
abbrev pub ShutsBy : Bool → ShelfOf → ShelfOf → Type 0
ShutsBy true old new = ShelvesChapter old new
ShutsBy false old new = new ≡ old

-- nothing was done; while the history is recorded, a chapter that was full may have been closed
abbrev pub IsLeftBy : Bool → ShelfOf → ShelfOf → Type 0
IsLeftBy true old new = IsLeft old new
IsLeftBy false old new = new ≡ old

-- when a call at a moment answers, and when it refuses with what: while nothing is recorded no
-- chapter is ever full
abbrev pub IsDueBy : {A : Type 0} → Bool → PartOf → ℕ → Result A Refusal → Type 0
IsDueBy true part moment result = IsShelfDue part moment result
IsDueBy false part moment result = IsLeanDue part moment result
