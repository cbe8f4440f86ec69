-- SPDX-License-Identifier: MIT
-- Which part of many a name lies in, a shelf that was made, and what calls leave of a shelf.
use Rattle.std.specs.Prelude.{◌≡◌, ℕ, ◌/◌, ◌%◌, ◌^◌, ◌<◌, ◌≤◌, Bool, true, false, if◌then◌else◌, List, length}
use Rattle.rrc_name.specs.Key.{IsFolded}
use Rattle.rrc_name.specs.Wire.{folded, IsWireForm}
use Rattle.rrc_history.specs.Asked.{AskOf}
use Rattle.rrc_history.specs.Fits.{OfferOf}
use Rattle.rrc_history.specs.Limits.{RulesAre}
use Rattle.rrc_history.specs.declared.event.Outcome.{Outcome}
use Rattle.rrc_history.specs.declared.event.Reply.{Reply}
use Rattle.rrc_history.specs.declared.event.Tag.{Tag}
use Rattle.rrc_history.specs.declared.rules.Rules.{Rules}
use Rattle.rrc_cache.specs.Lean.{first_chapter}
use Rattle.rrc_cache.specs.Part.{next_number, PartOf}
use Rattle.rrc_cache.specs.Seeds.{keyed_hash}
use Rattle.rrc_share.specs.CacheShelf.{lean_shelf, CacheShelfOf, IsLeftBy, TakesAsk, TakesOffer, TakesSweep}
use Rattle.rrc_share.specs.Shelf.{CanWrite, IsShelfSpent, ShelfOf}
use Rattle.rrc_share.specs.Switches.{Starts}
use Rattle.rrc_shelf.specs.declared.terms.ShelfRules.{ShelfRules}

-- ---- names
-- Names that are folded and hashed once, for all that is asked of them.

-- the octets are a name whose letters A to Z are a to z, and this is its hash under the seed
pub record IsHashedName (octets seed : List ℕ) (hash : ℕ) : Type 0 where
  pub wire_form : IsWireForm octets
  pub low : IsFolded octets
  pub hashed : hash ≡ keyed_hash seed octets

-- ---- parts
-- The parts that a caller's shelves are. All keys of a name lie in one, and only who knows a seed
-- can tell in which.

-- the part, of so many parts, that a name lies in, whatever its case (ours): by the upper 32 bits
-- of its hash, since by the lower ones a part places what it holds
abbrev pub keyed_part_of : List ℕ → List ℕ → ℕ → ℕ
keyed_part_of seed name parts = keyed_hash seed (folded name) / 2 ^ 32 % parts

-- ---- a shelf that was made

-- an empty part by these rules, in its first chapter, of which nothing is recorded
abbrev pub IsNew : ShelfRules → CacheShelfOf → Type 0
IsNew terms shelf =
    (rules : Rules) × RulesAre rules terms.capacity terms.chapter terms.max_stale × (shelf ≡ record { records = false; shelf = lean_shelf (first_chapter rules) })

-- ---- events
-- What calls leave of a shelf, whether its history is recorded or not: it stays as it is, and only
-- rrc_record, rrc_stop_and_drop and rrc_stop_recording change it.

-- an offer was written, with what became of it and what it evicted
pub record MakesOffer (old new : CacheShelfOf) (tag : Tag) (offer : OfferOf) (outcome : Outcome) : Type 0 where
  pub records : new.records ≡ old.records
  pub takes : TakesOffer old.records old.shelf new.shelf tag offer outcome

-- an ask was written, with its answer
pub record MakesAsk (old new : CacheShelfOf) (tag : Tag) (ask : AskOf) (reply : Reply) : Type 0 where
  pub records : new.records ≡ old.records
  pub takes : TakesAsk old.records old.shelf new.shelf tag ask reply

-- a sweep was written, with as many keys as were removed
pub record MakesSweep (old new : CacheShelfOf) (tag : Tag) (moment removed : ℕ) : Type 0 where
  pub records : new.records ≡ old.records
  pub takes : TakesSweep old.records old.shelf new.shelf tag moment removed

-- nothing was written; while the history is recorded, a chapter that was full may have been closed,
-- which changes no history and no reply
pub record IsLeftAs (old new : CacheShelfOf) : Type 0 where
  pub records : new.records ≡ old.records
  pub left : IsLeftBy old.records old.shelf new.shelf

-- the next event has a number below 2^62, and where a chapter that is recorded is full it can be
-- closed
abbrev pub CanWriteBy : Bool → PartOf → Type 0
CanWriteBy true part = CanWrite part
CanWriteBy false part = next_number part < 2 ^ 62

-- the numbers of events are spent, or those of chapters where one that is recorded is full
abbrev pub IsSpentBy : Bool → PartOf → Type 0
IsSpentBy true part = IsShelfSpent part
IsSpentBy false part = 2 ^ 62 ≤ next_number part

-- ---- records

-- the history is recorded from here on, and each key holds what it held
pub record StartsRecord (old new : CacheShelfOf) : Type 0 where
  pub records : new.records ≡ true
  pub starts : Starts old.records old.shelf new.shelf

-- nothing is recorded from here on, what was recorded is dropped, and the part is as it was
abbrev pub DropsRecord : CacheShelfOf → CacheShelfOf → Type 0
DropsRecord old new = new ≡ record { records = false; shelf = lean_shelf old.shelf.part }

-- how many events the open chapter has, if they are recorded
abbrev pub recorded_events : Bool → ShelfOf → ℕ
recorded_events records shelf = if records then length shelf.part.events else 0

-- how many chapters are closed, if they are recorded
abbrev pub recorded_chapters : Bool → ShelfOf → ℕ
recorded_chapters records shelf = if records then length shelf.closed else 0
