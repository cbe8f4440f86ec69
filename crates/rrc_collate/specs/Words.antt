-- SPDX-License-Identifier: MIT
-- Words on values of classes: lines that workers took, turns of questions.
use Rattle.std.specs.Prelude.{◌≡◌, ◌≢◌, ◌≤◌, ◌<◌, ℕ, ◌==◌, List, [], ◌∷◌, length, slice_get, slice_index_or, Option, Some, None, IsSome, if◌then◌else◌}
use Rattle.std.specs.List.{All, AllPairs}
use Rattle.rrc_collate.specs.declared.valued.Valued.{Valued}

-- within no class a value is lower than one before it
abbrev pub NeverFalls : List Valued → Type 0
NeverFalls values = AllPairs (λ earlier later. earlier.class ≡ later.class → earlier.value ≤ later.value) values

-- no value stands twice, whatever its class
abbrev pub NoneTwice : List Valued → Type 0
NoneTwice values = AllPairs (λ earlier later. earlier.value ≢ later.value) values

-- each value is below a count
abbrev pub AllBelow : ℕ → List Valued → Type 0
AllBelow count values = All (λ valued. valued.value < count) values

-- the class in which a value stands first
abbrev pub class_of : ℕ → List Valued → Option ℕ
class_of value [] = None
class_of value (first ∷ behind) = if first.value == value then Some first.class else class_of value behind

-- values below a count, none of them twice
pub record AreApart (count : ℕ) (values : List Valued) : Type 0 where
  pub below : AllBelow count values
  pub once : NoneTwice values

-- for each value below a count the class in which it stands, if it stands in one
pub record AreClasses (count : ℕ) (values : List Valued) (classes : List (Option ℕ)) : Type 0 where
  pub size : length classes ≡ count
  pub each : (value : ℕ) → value < count → slice_index_or classes value None ≡ class_of value values

-- each line below a count was taken, once, and no other line was
pub record AreSharedOut (count : ℕ) (taken : List Valued) : Type 0 where
  pub below : AllBelow count taken
  pub once : NoneTwice taken
  pub each : (line : ℕ) → line < count → IsSome (class_of line taken)

-- the worker that took each line
pub record AreOwners (count : ℕ) (taken : List Valued) (owners : List ℕ) : Type 0 where
  pub size : length owners ≡ count
  pub each : (line : ℕ) → line < count → slice_get owners line ≡ class_of line taken
