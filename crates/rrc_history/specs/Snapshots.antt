-- SPDX-License-Identifier: MIT
-- Snapshots: what a part held when a chapter of its history began, and what holds of its entries.
use Rattle.std.specs.Prelude.{◌≡◌, ℕ, List, [], ◌∷◌, ◌++◌, length, Bool, not, ◌||◌, ◌==◌, nat_le, nat_lt, if◌then◌else◌, Option, Some, None}
use Rattle.std.specs.List.{list_any}
use Rattle.std.specs.Option.{option_or}
use Rattle.rrc_name.specs.Key.{KeyOf, key_eq}
use Rattle.rrc_history.specs.declared.rules.Rules.{Rules}
use Rattle.rrc_history.specs.declared.snapshot.Entry.{Entry}
use Rattle.rrc_history.specs.declared.snapshot.NoSnapshot.{NoSnapshot}
use Rattle.rrc_history.specs.declared.snapshot.NoSnapshot.TheVariants.{Fault, Memory}
use Rattle.rrc_history.specs.declared.snapshot.SnapshotFault.{SnapshotFault}
use Rattle.rrc_history.specs.declared.snapshot.SnapshotFault.TheVariants.{TooMany, RepeatedKey, BadNumber, WrongBody, BadMoment}
use Rattle.rrc_history.specs.Fits.{fits}
use Rattle.rrc_history.specs.Lives.{LAST_MOMENT}

-- the rules of the part, the number of the chapter's first event, and what the keys held, the key touched last first
pub record SnapshotOf : Type 0 where
  pub rules : Rules
  pub first : ℕ
  pub entries : List Entry

-- one of the entries has the key
abbrev pub has_key : KeyOf → List Entry → Bool
has_key key entries = list_any (λ entry. key_eq key entry.key) entries

-- one of the entries has the number
abbrev pub has_number : ℕ → List Entry → Bool
has_number number entries = list_any (λ entry. entry.number == number) entries

-- what is wrong with an entry behind others: that so many stand before it, its key, its number, its body or its moment
abbrev pub entry_fault : ℕ → ℕ → List Entry → Entry → Option SnapshotFault
entry_fault capacity first before entry =
    if nat_le capacity (length before) then Some TooMany
    else if has_key entry.key before then Some RepeatedKey
    else if nat_le first entry.number || has_number entry.number before then Some BadNumber
    else if not (fits entry.key entry.body) then Some WrongBody
    else if nat_lt LAST_MOMENT entry.moment then Some BadMoment
    else None

-- the first fault of entries behind others
abbrev pub fault_behind : ℕ → ℕ → List Entry → List Entry → Option SnapshotFault
fault_behind capacity first before [] = None
fault_behind capacity first before (entry ∷ behind) =
    option_or (entry_fault capacity first before entry) (fault_behind capacity first (before ++ entry ∷ []) behind)

-- the first fault of a snapshot's entries, if they have one
abbrev pub snapshot_fault : Rules → ℕ → List Entry → Option SnapshotFault
snapshot_fault rules first entries = fault_behind rules.capacity first [] entries

-- why no snapshot was made of entries: the first of them that is wrong has this fault, or memory was refused
abbrev pub IsWhyNoSnapshot : Rules → ℕ → List Entry → NoSnapshot → Type 0
IsWhyNoSnapshot rules first entries (Fault fault) = snapshot_fault rules first entries ≡ Some fault
IsWhyNoSnapshot rules first entries Memory = Unit {0}
