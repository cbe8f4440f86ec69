-- SPDX-License-Identifier: MIT
use Rattle.rrc_marks.proofs.StepsCount.{steps_count}
use Rattle.rrc_marks.proofs.law.each_step_is_counted.Goals as goal

pub returns : goal.returns
returns c = steps_count
