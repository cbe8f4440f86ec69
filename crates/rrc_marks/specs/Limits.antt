-- SPDX-License-Identifier: MIT
-- The limits of the numbers of a table.
use Rattle.std.specs.Prelude.{◌≡◌, ℕ, ◌^◌, Bool, true, false, ◌&&◌, nat_le}
use Rattle.rrc_marks.specs.declared.fault.MarksFault.{MarksFault}
use Rattle.rrc_marks.specs.declared.fault.MarksFault.TheVariants.{BadNumber, Memory}

-- 1 to 4,096 marks, at most 1,000,000 lines, and 1 to 2^40 turns
abbrev pub is_within_limits : ℕ → ℕ → ℕ → Bool
is_within_limits marks lines turns = nat_le 1 marks && nat_le marks 4096 && nat_le lines 1000000 && nat_le 1 turns && nat_le turns (2 ^ 40)

-- a number is bad where the numbers are not within their limits, and memory is refused only where they are
abbrev pub IsFaultOf : Bool → MarksFault → Type 0
IsFaultOf within BadNumber = within ≡ false
IsFaultOf within Memory = within ≡ true
