-- SPDX-License-Identifier: MIT
use Rattle.rrc_marks.proofs.StepsKeep.{steps_keep}
use Rattle.rrc_marks.proofs.law.each_step_keeps_the_rule.Goals as goal

pub returns : goal.returns
returns c = steps_keep
