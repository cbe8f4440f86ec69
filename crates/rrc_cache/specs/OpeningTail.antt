-- SPDX-License-Identifier: MIT
-- The entries with which a chapter began, less those that moved since.
use Rattle.std.specs.Prelude.{◌≡◌, ℕ, ◌+◌, ◌≤◌, List, [], ◌∷◌, ◌++◌, Option, Some, None}
use Rattle.std.specs.List.{AllByRecursion}
use Rattle.rrc_history.specs.declared.snapshot.Entry.{Entry}
use Rattle.rrc_history.specs.EntryLists.{without}
use Rattle.rrc_history.specs.Sound.{IsBefore, AreNumberedApart}
use Rattle.rrc_cache.specs.declared.opening_tail.OpeningTail.{OpeningTail}

-- those that did not move, in the order in which the chapter began with them
abbrev pub left_of : Option OpeningTail → List Entry
left_of None = []
left_of (Some tail) = without tail.moved.items tail.opening.entries

-- they stand behind all others; no two entries have the same number, and the next entry has none of
-- these
pub record EndsWith (tail : OpeningTail) (entries : List Entry) : Type 0 where
  pub front : List Entry
  pub stands : entries ≡ front ++ left_of (Some tail)
  pub numbered : AreNumberedApart entries
  pub before : AllByRecursion (IsBefore tail.next) entries

-- where there is a tail, the entries end with it
abbrev pub EndsWithTail : Option OpeningTail → List Entry → Type 0
EndsWithTail None entries = Unit {0}
EndsWithTail (Some tail) entries = EndsWith tail entries

-- the entry of a number moved, unless there is no tail any more
abbrev pub HasMoved : ℕ → Option OpeningTail → Option OpeningTail → Type 0
HasMoved number old None = Unit {0}
HasMoved number None (Some new) = ⊥
HasMoved number (Some old) (Some new) = (new.opening ≡ old.opening) × (new.moved.items ≡ old.moved.items ++ number ∷ []) × (new.next ≡ old.next)

-- an entry of the next number or a greater one came, unless there is no tail any more
abbrev pub HasCome : ℕ → Option OpeningTail → Option OpeningTail → Type 0
HasCome number old None = Unit {0}
HasCome number None (Some new) = ⊥
HasCome number (Some old) (Some new) = (new.opening ≡ old.opening) × (new.moved.items ≡ old.moved.items) × (old.next ≤ number) × (new.next ≡ number + 1)

-- the entry that a key held moved, if there was one
abbrev pub HasGivenWay : Option ℕ → Option OpeningTail → Option OpeningTail → Type 0
HasGivenWay None old new = new ≡ old
HasGivenWay (Some number) old new = HasMoved number old new

-- an entry came in the place of the one that its key had, if any
abbrev pub IsPut : Option ℕ → ℕ → Option OpeningTail → Option OpeningTail → Type 0
IsPut held number old new = (between : Option OpeningTail) × HasGivenWay held old between × HasCome number between new
