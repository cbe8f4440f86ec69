-- SPDX-License-Identifier: MIT
-- The ranges of limits.
use Rattle.std.specs.Prelude.{◌≡◌, ℕ, ◌≤◌}
use Rattle.rrc_sets.specs.declared.limits.Limits.{Limits}

-- the numbers may be limits
pub record MayBeLimits (cap negative_cap recheck : ℕ) : Type 0 where
  pub some_cap : 1 ≤ cap
  pub cap_within : cap ≤ 604800
  pub some_negative_cap : 1 ≤ negative_cap
  pub negative_cap_within : negative_cap ≤ 604800
  pub some_recheck : 1 ≤ recheck
  pub recheck_within : recheck ≤ 300

-- the limits have these numbers
pub record LimitsAre (limits : Limits) (cap negative_cap recheck : ℕ) : Type 0 where
  pub cap_is : limits.cap ≡ cap
  pub negative_cap_is : limits.negative_cap ≡ negative_cap
  pub recheck_is : limits.recheck ≡ recheck
