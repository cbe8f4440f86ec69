-- SPDX-License-Identifier: MIT
-- the tasks so far are those of the worker's first lines
use Rattle.std.proofs.Common.{map, take}
use Rattle.rrc_report.specs.Steps.{given_by, AreTasks}
use Rattle.rrc_report.proofs.tasks.tasks_by.Given as goal

abbrev pub invariant-loop-answered : goal.invariant-loop-answered
invariant-loop-answered l = AreTasks l.config l.trace l.questions (map (given_by l.worker) (take l.answered-index l.done.answers)) l.tasks.items
