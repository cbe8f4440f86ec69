-- SPDX-License-Identifier: MIT
-- Octets that are cut behind an LF.
use Rattle.std.specs.Prelude.{◌≡◌, ◌≢◌, ℕ, Bool, true, false, List, [], ◌∷◌, ◌++◌}
use Rattle.std.specs.List.{AllByRecursion}

-- no octet ends a line
abbrev pub IsUnended : List ℕ → Type 0
IsUnended octets = AllByRecursion (λ octet. octet ≢ 10) octets

-- octets cut behind an LF, or with none
abbrev pub IsCut : Bool → List ℕ → Type 0
IsCut true octets = (front : List ℕ) × IsUnended front × (octets ≡ front ++ 10 ∷ [])
IsCut false octets = IsUnended octets
