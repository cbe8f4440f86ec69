-- SPDX-License-Identifier: MIT
-- one call on each part: as many operations as parts, and at each place that of the part so numbered
use Rattle.std.proofs.Common.{◌≡◌, ◌<◌, ℕ, zero, suc, ◌+◌, length, Some, refl, ap, ◌∙◌, arith}
use Rattle.std.specs.Prelude.{slice_get}
use Rattle.rrc_collate.specs.declared.script.Call.{Call}
use Rattle.rrc_collate.specs.declared.script.Operation.{Operation}
use Rattle.rrc_collate.specs.Operations.{everywhere}

pub length_everywhere : (call : Call) (part count : ℕ) → length (everywhere call part count) ≡ count
length_everywhere call part zero = refl
length_everywhere call part (suc count) = ap suc (length_everywhere call (part + 1) count)

-- a call on a part
abbrev on_part : Call → ℕ → Operation
on_part call part = record { part = part; call = call }

some_part : (call : Call) (part other : ℕ) → part ≡ other
    → Some (on_part call part) ≡ Some (on_part call other)
some_part call part other same = ap (λ p. Some (on_part call p)) same

at_from : (call : Call) (part count place : ℕ) → place < count
    → slice_get (everywhere call part count) place ≡ Some (on_part call (part + place))
at_from call part zero place below = absurd (omega (arith, below))
at_from call part (suc count) zero below = some_part call part (part + 0) (omega arith)
at_from call part (suc count) (suc place) below =
    at_from call (part + 1) count place (omega (arith, below))
    ∙ some_part call (part + 1 + place) (part + suc place) (omega arith)

pub at_everywhere : (call : Call) (parts place : ℕ) → place < parts
    → slice_get (everywhere call 0 parts) place ≡ Some (on_part call place)
at_everywhere call parts place below =
    at_from call 0 parts place below ∙ some_part call (0 + place) place (omega arith)
