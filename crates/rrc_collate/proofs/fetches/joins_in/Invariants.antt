-- SPDX-License-Identifier: MIT
-- what was picked of the tasks so far
use Rattle.std.proofs.Common.{◌≡◌, take}
use Rattle.rrc_collate.specs.Fetches.{join_by, picked}
use Rattle.rrc_collate.proofs.fetches.joins_in.Given as goal

abbrev pub invariant-loop-task : goal.invariant-loop-task
invariant-loop-task l = l.joins.items ≡ picked join_by (take l.task-index l.tasks)
