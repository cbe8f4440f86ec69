-- SPDX-License-Identifier: MIT
-- What holds of the entries of every snapshot.
use Rattle.std.specs.Prelude.{◌≡◌, ◌↔◌, ℕ, ◌<◌, ◌≤◌, List, [], ◌∷◌, length, true, false, ◌==◌, None}
use Rattle.std.specs.List.{AllByRecursion}
use Rattle.rrc_history.specs.declared.rules.Rules.{Rules}
use Rattle.rrc_history.specs.declared.snapshot.Entry.{Entry}
use Rattle.rrc_history.specs.Fits.{fits}
use Rattle.rrc_history.specs.Lives.{IsTimely}
use Rattle.rrc_history.specs.Entries.{AreApart}
use Rattle.rrc_history.specs.Snapshots.{snapshot_fault}

-- an event before the first number stored the entry
abbrev pub IsBefore : ℕ → Entry → Type 0
IsBefore first entry = entry.number < first

-- the entry's body fits its key
abbrev pub IsFit : Entry → Type 0
IsFit entry = fits entry.key entry.body ≡ true

-- no two entries have the same number
abbrev pub AreNumberedApart : List Entry → Type 0
AreNumberedApart [] = Unit {0}
AreNumberedApart (entry ∷ entries) = AllByRecursion (λ other. (entry.number == other.number) ≡ false) entries × AreNumberedApart entries

-- no more entries than the capacity, with keys, numbers and moments as they ought to be, and bodies that fit
pub record AreSound (capacity first : ℕ) (entries : List Entry) : Type 0 where
  pub few : length entries ≤ capacity
  pub apart : AreApart entries
  pub before : AllByRecursion (IsBefore first) entries
  pub numbered : AreNumberedApart entries
  pub fit : AllByRecursion IsFit entries
  pub timely : AllByRecursion IsTimely entries

-- entries of which none is wrong are sound, and sound ones have no fault
abbrev pub SoundWithNoFault : Type 0
SoundWithNoFault = (rules : Rules) (first : ℕ) (entries : List Entry) → (snapshot_fault rules first entries ≡ None) ↔ AreSound rules.capacity first entries
