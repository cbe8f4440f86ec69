-- SPDX-License-Identifier: MIT
-- Whether a class has another value than one.
use Rattle.std.specs.Prelude.{◌≡◌, ◌≢◌, ◌<◌, ℕ, ◌==◌, List, [], ◌∷◌, length, slice_index_or, Bool, true, false, not, if◌then◌else◌}
use Rattle.std.specs.List.{Contains}
use Rattle.rrc_collate.specs.declared.valued.Valued.{Valued}
use Rattle.rrc_collate.specs.declared.other_values.Seen.{Seen}
use Rattle.rrc_collate.specs.declared.other_values.Seen.TheVariants.{Nothing, One, Many}

-- another value of the class stands among these
pub record HasOther (present : List Valued) (wanted : Valued) : Type 0 where
  pub other : Valued
  pub stands : Contains present other
  pub same_class : other.class ≡ wanted.class
  pub other_value : other.value ≢ wanted.value

abbrev pub after : Seen → ℕ → Seen
after Nothing value = One value
after (One first) value = if first == value then One first else Many
after Many value = Many

abbrev pub has_other : Seen → ℕ → Bool
has_other Nothing value = false
has_other (One first) value = not (first == value)
has_other Many value = true

-- which values of a class stand among some, beside those that were seen
abbrev pub seen_from : Seen → ℕ → List Valued → Seen
seen_from seen class [] = seen
seen_from seen class (valued ∷ behind) = seen_from (if valued.class == class then after seen valued.value else seen) class behind

-- a table of the values that were seen in each class
pub record AreSeen (classes : ℕ) (present : List Valued) (seen : List Seen) : Type 0 where
  pub size : length seen ≡ classes
  pub each : (class : ℕ) → class < classes → slice_index_or seen class Nothing ≡ seen_from Nothing class present
