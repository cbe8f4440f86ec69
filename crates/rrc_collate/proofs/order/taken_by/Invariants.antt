-- SPDX-License-Identifier: MIT
-- what was taken by the tasks so far
use Rattle.std.proofs.Common.{◌≡◌, take}
use Rattle.rrc_collate.specs.Collated.{taken_by}
use Rattle.rrc_collate.proofs.order.taken_by.Given as goal

abbrev pub invariant-loop-task : goal.invariant-loop-task
invariant-loop-task l = l.taken.items ≡ taken_by (take l.task-index l.tasks)
