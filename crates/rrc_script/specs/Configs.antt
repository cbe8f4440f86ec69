-- SPDX-License-Identifier: MIT
-- How a trace may be replayed.
use Rattle.std.specs.Prelude.{◌≡◌, ℕ, ◌≤◌}
use Rattle.rrc_history.specs.declared.rules.Rules.{Rules}
use Rattle.rrc_sets.specs.declared.limits.Limits.{Limits}
use Rattle.rrc_script.specs.declared.config.Config.{Config}

-- 1 to 64 workers, and 1 to 64 parts
pub record MayBeConfig (workers parts : ℕ) : Type 0 where
  pub some_workers : 1 ≤ workers
  pub few_workers : workers ≤ 64
  pub some_parts : 1 ≤ parts
  pub few_parts : parts ≤ 64

-- the config has these workers, parts, rules and limits
pub record ConfigIs (config : Config) (workers parts : ℕ) (rules : Rules) (limits : Limits) : Type 0 where
  pub workers_are : config.workers ≡ workers
  pub parts_are : config.parts ≡ parts
  pub rules_are : config.rules ≡ rules
  pub limits_are : config.limits ≡ limits
