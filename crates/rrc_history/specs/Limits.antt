-- SPDX-License-Identifier: MIT
-- The ranges of a part's rules.
use Rattle.std.specs.Prelude.{◌≡◌, ℕ, ◌≤◌}
use Rattle.rrc_history.specs.declared.rules.Rules.{Rules}

-- the numbers may be a part's rules
pub record MayBeRules (keys events seconds : ℕ) : Type 0 where
  pub some_keys : 1 ≤ keys
  pub capacity : keys ≤ 65536
  pub some_events : 1 ≤ events
  pub chapter : events ≤ 1048576
  pub stale : seconds ≤ 604800

-- the rules have these numbers
pub record RulesAre (rules : Rules) (keys events seconds : ℕ) : Type 0 where
  pub capacity : rules.capacity ≡ keys
  pub chapter : rules.chapter ≡ events
  pub stale : rules.stale ≡ seconds
