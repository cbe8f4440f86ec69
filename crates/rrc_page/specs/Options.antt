-- SPDX-License-Identifier: MIT
-- How a page has a trace replayed.
use Rattle.std.specs.Prelude.{◌≡◌}
use Rattle.rrc_history.specs.Limits.{MayBeRules, RulesAre}
use Rattle.rrc_script.specs.declared.config.Config.{Config}
use Rattle.rrc_script.specs.Configs.{MayBeConfig}
use Rattle.rrc_report.specs.Limits.{LIMITS}
use Rattle.rrc_page.specs.declared.options.Options.{Options}

-- each option is in its range, and one worker may replay over so many parts
pub record MayBeOptions (options : Options) : Type 0 where
  pub parts : MayBeConfig 1 options.parts
  pub rules : MayBeRules options.capacity options.chapter options.stale

-- the config has one worker, and the parts and the rules of the options
pub record IsConfigOf (options : Options) (config : Config) : Type 0 where
  pub alone : config.workers ≡ 1
  pub parts : config.parts ≡ options.parts
  pub rules : RulesAre config.rules options.capacity options.chapter options.stale
  pub limits : config.limits ≡ LIMITS
