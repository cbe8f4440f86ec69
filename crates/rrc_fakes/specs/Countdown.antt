-- SPDX-License-Identifier: MIT
-- How many calls come before the one that goes wrong, while that is to come.
use Rattle.std.specs.Prelude.{ℕ, ◌==◌, ◌-◌, Bool, false, Option, Some, None, if◌then◌else◌}

-- whether the next call is the one
abbrev pub is_due : Option ℕ → Bool
is_due None = false
is_due (Some calls) = calls == 0

-- the count behind the next call
abbrev pub behind : Option ℕ → Option ℕ
behind None = None
behind (Some calls) = if calls == 0 then None else Some (calls - 1)
