-- SPDX-License-Identifier: MIT
-- What the calls on a shared cache tell, whatever lies under its locks.
use Rattle.std.specs.Prelude.{◌≡◌, ℕ, ◌<◌, ◌≤◌, Bool, List, [], ◌∷◌, None, IfOk, OnErr, Result, Ok, Err}
use Rattle.rrc_history.specs.Chapters.{ChapterOf}
use Rattle.rrc_history.specs.Chains.{chain_fault}
use Rattle.rrc_history.specs.Lives.{LAST_MOMENT}
use Rattle.rrc_cache.specs.declared.refusal.Refusal.{Refusal}
use Rattle.rrc_cache.specs.declared.refusal.Refusal.TheVariants.{HistoryFull, MomentTooLarge, Memory}
use Rattle.rrc_share.specs.CacheShelf.{CacheShelfOf, IsDueBy, IsLeftBy, IsSoundBy}
use Rattle.rrc_share.specs.Shelf.{ShelfOf}
use Rattle.rrc_share.specs.Switches.{IsSwitchDue}

-- so many parts: 1 to 64 of them, and beside their locks a list with room for them, in which none is yet
pub record HasParts (parts kept room : ℕ) : Type 0 where
  pub some : 1 ≤ parts
  pub few : parts ≤ 64
  pub none : kept ≡ 0
  pub reserved : parts ≤ room

-- what the moment of a call says of its answer: it is MomentTooLarge only where the moment is above the last one, and is then that or HistoryFull
abbrev pub IsMomentDue : {A : Type 0} → ℕ → Result A Refusal → Type 0
IsMomentDue moment (Ok answer) = moment ≤ LAST_MOMENT
IsMomentDue moment (Err HistoryFull) = Unit {0}
IsMomentDue moment (Err MomentTooLarge) = LAST_MOMENT < moment
IsMomentDue moment (Err Memory) = moment ≤ LAST_MOMENT

-- a refusal of a call that has no moment
abbrev pub IsWithoutMoment : Refusal → Type 0
IsWithoutMoment HistoryFull = Unit {0}
IsWithoutMoment MomentTooLarge = ⊥
IsWithoutMoment Memory = Unit {0}

-- chapters that are no history, or one that chains
abbrev pub AreChained : List ChapterOf → Type 0
AreChained [] = Unit {0}
AreChained (chapter ∷ behind) = chain_fault (chapter ∷ behind) ≡ None

-- ---- what a call answers is what the same call on some sound part answers. Which part that was no
-- clause can name: other threads change what lies under a lock

-- a sound part took a call at a moment with this answer, or refused it so, where that is due
pub record IsCallOfPart {A : Type 0} (Takes : Bool → ShelfOf → ShelfOf → A → Type 0) (moment : ℕ) (result : Result A Refusal) : Type 0 where
  pub old : CacheShelfOf
  pub new : CacheShelfOf
  pub sound : IsSoundBy old.records old.shelf
  pub ok : IfOk result (Takes old.records old.shelf new.shelf)
  pub err : OnErr result (IsLeftBy old.records old.shelf new.shelf)
  pub due : IsDueBy old.records old.shelf.part moment result

-- the same of a call that has no moment. Whether it has to close the chapter goes by whether the part records
pub record IsSwitchOfPart {A : Type 0} (Does : Bool → ShelfOf → ShelfOf → A → Type 0) (closes : Bool → Bool) (result : Result A Refusal) : Type 0 where
  pub old : CacheShelfOf
  pub new : CacheShelfOf
  pub sound : IsSoundBy old.records old.shelf
  pub ok : IfOk result (Does old.records old.shelf new.shelf)
  pub err : OnErr result (new ≡ old)
  pub due : IsSwitchDue (closes old.records) old.shelf.part result

-- it holds of some sound part
abbrev pub IsOfPart : (ShelfOf → Type 0) → Type 0
IsOfPart Holds = (part : CacheShelfOf) × IsSoundBy part.records part.shelf × Holds part.shelf
