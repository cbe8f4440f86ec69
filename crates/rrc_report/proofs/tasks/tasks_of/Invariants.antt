-- SPDX-License-Identifier: MIT
-- the tasks so far are those of the first workers
use Rattle.std.proofs.Common.{take}
use Rattle.rrc_report.specs.Steps.{given_from, AreTasks}
use Rattle.rrc_report.proofs.tasks.tasks_of.Given as goal

abbrev pub invariant-loop-worker : goal.invariant-loop-worker
invariant-loop-worker l = AreTasks l.config l.trace l.questions (given_from 0 (take l.worker l.done)) l.tasks.items
