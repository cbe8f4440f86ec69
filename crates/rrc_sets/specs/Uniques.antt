-- SPDX-License-Identifier: MIT
-- Lists without repeats, and lists of which some is left out.
use Rattle.std.specs.Prelude.{◌≡◌, ◌⊎◌, List, [], ◌∷◌, Bool, not, filter}

-- the values, but for those that are the same as an earlier one
abbrev pub uniques : {A : Type 0} → (A → A → Bool) → List A → List A
uniques same [] = []
uniques same (first ∷ others) = first ∷ filter (λ other. not (same first other)) (uniques same others)

-- the values are some of others, in the order of these
abbrev pub AreSomeOf : {A : Type 0} → List A → List A → Type 0
AreSomeOf some [] = some ≡ []
AreSomeOf {A} some (value ∷ values) = AreSomeOf some values ⊎ ((others : List A) × (some ≡ value ∷ others) × AreSomeOf others values)
