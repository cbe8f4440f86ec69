-- SPDX-License-Identifier: MIT
-- What C is told of what a shelf holds, and of what leaves it: sweeps, trims and chapters.
use Rattle.std.specs.Prelude.{◌≡◌, ℕ, ◌+◌, ◌-◌, ◌^◌, min, ◌<◌, ◌≤◌, ◌⊎◌, false, not, List, [], ◌∷◌, ◌++◌, length, take, drop, slice_get, Option, Some, MatchOption}
use Rattle.std.specs.List.{AllByRecursion}
use Rattle.std.specs.Option.{option_and_then}
use Rattle.rrc_history.specs.Chapters.{ChapterOf}
use Rattle.rrc_history.specs.Lives.{LAST_MOMENT}
use Rattle.rrc_cache.specs.Expiry.{HoldsNothing, HoldsSomething, IsAfterLastSweep, NoneFullyExpiresBefore}
use Rattle.rrc_cache.specs.Part.{next_number, PartOf}
use Rattle.rrc_cache.specs.Sizes.{HoldsKeys, HoldsOctets}
use Rattle.rrc_share.specs.CacheShelf.{lean_shelf, CacheShelfOf}
use Rattle.rrc_share.specs.Shelf.{AreBefore}
use Rattle.rrc_share.specs.Switches.{Stops}
use Rattle.rrc_share.specs.Trims.{Evicts, Trims}
use Rattle.rrc_archive.specs.Archive.{lines_of, written_of}
use Rattle.rrc_shelf.specs.Asks.{IsFilled}
use Rattle.rrc_shelf.specs.Checks.{number_of, unless, Check, IsDoneOrMemory, OutOfMemory, Passes, Refuses}
use Rattle.rrc_shelf.specs.Refusals.{RecordDueBy, WriteDue}
use Rattle.rrc_shelf.specs.Shelves.{recorded_chapters, recorded_events, IsLeftAs, MakesSweep}
use Rattle.rrc_shelf.specs.declared.chapter_lines.Line.{Line}
use Rattle.rrc_shelf.specs.declared.sizes.Sizes.{Sizes}
use Rattle.rrc_shelf.specs.declared.status.Status.TheVariants.{HistoryFull, MomentTooLarge, BadRules}
use Rattle.rrc_shelf.specs.declared.sweeps.Swept.{Swept}
use Rattle.rrc_shelf.specs.declared.terms.LinePlace.{LinePlace}
use Rattle.rrc_shelf.specs.declared.terms.SweepTerms.{SweepTerms}
use Rattle.rrc_shelf.specs.declared.terms.TrimTerms.{TrimTerms}
use Rattle.rrc_shelf.specs.declared.trims.Trimmed.{Trimmed}

-- ---- what a shelf holds

-- how many keys the shelf holds, how many events the open chapter has and how many chapters are
-- closed, of which there are none where nothing is recorded, and how many octets the entries of
-- these keys have
pub record TellsSizes (sizes : Sizes) (shelf : CacheShelfOf) : Type 0 where
  pub keys_are : HoldsKeys shelf.shelf.part sizes.keys
  pub events_are : sizes.events ≡ recorded_events shelf.records shelf.shelf
  pub chapters_are : sizes.chapters ≡ recorded_chapters shelf.records shelf.shelf
  pub octets_are : HoldsOctets shelf.shelf.part sizes.octets

-- the greatest number is told, since no key holds anything
pub record TellsNever (part : PartOf) (moment : ℕ) : Type 0 where
  pub none : HoldsNothing part
  pub told : moment ≡ 2 ^ 64 - 1

-- some key holds something, none is fully expired before the moment, and it is past that of the
-- last sweep, where no offer came since
pub record TellsNext (part : PartOf) (moment : ℕ) : Type 0 where
  pub some : HoldsSomething part
  pub below : moment < 2 ^ 64 - 1
  pub before : NoneFullyExpiresBefore part moment
  pub progress : IsAfterLastSweep part moment

-- the next expiry of a part, or 2^64 - 1 where no key holds anything
abbrev pub IsNextExpiry : PartOf → ℕ → Type 0
IsNextExpiry part moment = TellsNever part moment ⊎ TellsNext part moment

-- the closed chapters were dropped, and as many of them are told, of which there are none where
-- nothing is recorded
pub record DropsChapters (chapters : ℕ) (old new : CacheShelfOf) : Type 0 where
  pub left : new ≡ record { records = old.records; shelf = lean_shelf old.shelf.part }
  pub told : chapters ≡ recorded_chapters old.records old.shelf

-- ---- sweeps
-- A sweep in steps, so that no call is long.

-- a step: the moment of a sweep, and how many keys it removed
pub record StepOf : Type 0 where
  pub moment : ℕ
  pub removed : ℕ

-- sweeps were written, each as one event; the last one comes first
abbrev pub Sweeps : ℕ → List StepOf → CacheShelfOf → CacheShelfOf → Type 0
Sweeps line [] old new = new ≡ old
Sweeps line (step ∷ earlier) old new =
    (middle : CacheShelfOf) × Sweeps line earlier old middle × MakesSweep middle new (record { line = line; place = 0 }) step.moment step.removed

-- how many keys they removed, as far as 64 bits count
abbrev pub removed_by : List StepOf → ℕ
removed_by [] = 0
removed_by (step ∷ earlier) = min (removed_by earlier + step.removed) (2 ^ 64 - 1)

-- so far there were such sweeps, none later than the moment of the call, and so many keys were
-- removed
pub record SweepsTo (sweep : SweepTerms) (removed : ℕ) (steps : List StepOf) (old new : CacheShelfOf) : Type 0 where
  pub sweeps : Sweeps sweep.line steps old new
  pub timely : AllByRecursion (λ (step : StepOf). step.moment ≤ sweep.moment) steps
  pub few : length steps ≤ sweep.most
  pub counted : removed ≡ removed_by steps

-- the checks of a sweep in steps: its limit is at least 1, and its moment is not too large
abbrev pub step_checks : SweepTerms → List Check
step_checks sweep = unless BadRules (1 ≤ sweep.most) ∷ unless MomentTooLarge (sweep.moment ≤ LAST_MOMENT) ∷ []

-- there were such sweeps, until no key is left that is fully expired at the moment, or as many keys
-- were removed as were to be, or as many sweeps made
pub record SweepsAll (sweep : SweepTerms) (removed : ℕ) (old new : CacheShelfOf) : Type 0 where
  pub steps : List StepOf
  pub goes : SweepsTo sweep removed steps old new
  pub ends : NoneFullyExpiresBefore new.shelf.part (sweep.moment + 1) ⊎ ((sweep.most ≤ removed) ⊎ (length steps ≡ sweep.most))

-- it is told by 1 that no key is left which is fully expired at the moment
pub record SweepsSome (sweep : SweepTerms) (swept : Swept) (old new : CacheShelfOf) : Type 0 where
  pub fit : Passes (step_checks sweep)
  pub sweeps : SweepsAll sweep swept.removed old new
  pub known : swept.is_done ≤ 1
  pub done : swept.is_done ≡ 1 → NoneFullyExpiresBefore new.shelf.part (sweep.moment + 1)

-- the first sweeps were made, and the next was refused by this number
pub record SweepsUpTo (number : ℕ) (sweep : SweepTerms) (removed : ℕ) (old new : CacheShelfOf) : Type 0 where
  pub steps : List StepOf
  pub middle : CacheShelfOf
  pub goes : SweepsTo sweep removed steps old middle
  pub left : IsLeftAs middle new
  pub at : ℕ
  pub timely : at ≤ sweep.moment
  pub due : WriteDue middle at number

-- what a refusal by this number leaves: a check failed and nothing was swept, or all passed and the
-- first sweeps were made, and it is told that the sweep is not done
abbrev pub SweepsUntil : ℕ → SweepTerms → Swept → CacheShelfOf → CacheShelfOf → Type 0
SweepsUntil number sweep swept old new =
    (Refuses (step_checks sweep) number × (new ≡ old) × (swept ≡ record { removed = 0; is_done = 0 }))
    ⊎ (Passes (step_checks sweep) × SweepsUpTo number sweep swept.removed old new × (swept.is_done ≡ 0))

-- ---- trims
-- A trim to a limit of octets, which one call makes of a shelf.

-- the checks of a trim: its limits are at least 1, and its moment is not too large
abbrev pub trim_checks : TrimTerms → List Check
trim_checks trim = unless BadRules ((1 ≤ trim.limit) × (1 ≤ trim.most)) ∷ unless MomentTooLarge (trim.moment ≤ LAST_MOMENT) ∷ []

-- the history goes on by evictions alone
pub record GoesOn (trim : TrimTerms) (old new : CacheShelfOf) : Type 0 where
  pub records : new.records ≡ old.records
  pub evicts : Evicts (record { line = trim.line; place = 0 }) trim.moment old.shelf new.shelf

-- the keys touched least recently went, as many as had to, and it is told how many, and the octets
-- that are left
pub record TrimsShelf (trim : TrimTerms) (trimmed : Trimmed) (old new : CacheShelfOf) : Type 0 where
  pub fit : Passes (trim_checks trim)
  pub goes : GoesOn trim old new
  pub trims : Trims trim.limit trim.most old.shelf new.shelf trimmed.removed
  pub octets : HoldsOctets new.shelf.part trimmed.octets

-- why a trim stops, while nothing is recorded: the numbers of events are spent, or memory, which it
-- asks for only if no sweep came after the last offer
abbrev pub IsLeanStop : PartOf → PartOf → ℕ → Type 0
IsLeanStop old new number = ((number ≡ number_of HistoryFull) × (2 ^ 62 ≤ next_number new + 1)) ⊎ (OutOfMemory number × IsAfterLastSweep old 0)

-- some of them went, and then an event was refused by this number
pub record TrimsSome (number : ℕ) (trim : TrimTerms) (old new : CacheShelfOf) : Type 0 where
  pub fit : Passes (trim_checks trim)
  pub goes : GoesOn trim old new
  pub why : (number ≡ number_of HistoryFull) ⊎ OutOfMemory number
  pub lean : old.records ≡ false → IsLeanStop old.shelf.part new.shelf.part number

-- what a refusal by this number leaves: nothing was done, as a check failed, or some of them went
abbrev pub TrimsUntil : ℕ → TrimTerms → CacheShelfOf → CacheShelfOf → Type 0
TrimsUntil number trim old new = ((new ≡ old) × Refuses (trim_checks trim) number) ⊎ TrimsSome number trim old new

-- ---- chapters that leave a shelf

-- the closed chapters left, the oldest first, which are none while nothing is recorded; the part
-- goes on from them, and stayed
pub record TakesClosed (chapters : List ChapterOf) (old new : CacheShelfOf) : Type 0 where
  pub taken : chapters ≡ old.shelf.closed
  pub none : old.records ≡ false → chapters ≡ []
  pub before : AreBefore chapters old.shelf.part
  pub left : new ≡ record { records = old.records; shelf = lean_shelf old.shelf.part }

-- nothing is recorded from here on, and all chapters that were left, that which was open last
pub record StopsRecord (chapters : List ChapterOf) (old new : CacheShelfOf) : Type 0 where
  pub records : new.records ≡ false
  pub stops : Stops old.records old.shelf new.shelf chapters

-- when a record ends and is handed out, and when that is refused with what: HistoryFull only where
-- there is one and its chapter's number is 2^62, memory at will
abbrev pub StopDue : CacheShelfOf → ℕ → Type 0
StopDue shelf number = OutOfMemory number ⊎ RecordDueBy (not shelf.records) shelf.shelf.part number

-- ---- lines of chapters
-- The lines of their archive as C is told them.

-- a line of a chapter, without the LF at its end, if there are both; both are counted from 0
abbrev pub line_at : List ChapterOf → LinePlace → Option (List ℕ)
line_at chapters place = option_and_then (λ (chapter : ChapterOf). slice_get (lines_of (written_of chapter)) place.line) (slice_get chapters place.chapter)

-- the octets from a place on, as many as there is room for
abbrev pub piece_of : List ℕ → ℕ → ℕ → List ℕ
piece_of text from room = take room (drop from text)

-- of a text it is told how many octets it has and how many were written, which are those from a
-- place on, as many as the buffer has room for; behind them the buffer is as it was
pub record TellsPiece (text : List ℕ) (from : ℕ) (told : Line) (before after : List ℕ) : Type 0 where
  pub size : told.size ≡ length text
  pub written : told.written ≡ length (piece_of text from (length before))
  pub buffer : IsFilled before (piece_of text from (length before)) after

-- a line of a chapter is told so, with the LF at its end
pub record TellsLine (chapters : List ChapterOf) (place : LinePlace) (told : Line) (before after : List ℕ) : Type 0 where
  pub text : List ℕ
  pub is_line : line_at chapters place ≡ Some text
  pub tells : TellsPiece (text ++ 10 ∷ []) place.from told before after

-- when a line is told: 23 is answered exactly where there is none, and memory alone refuses one
abbrev pub LineDue : List ChapterOf → LinePlace → ℕ → Type 0
LineDue chapters place number = MatchOption (line_at chapters place) (number ≡ 23) (λ text. IsDoneOrMemory number)
