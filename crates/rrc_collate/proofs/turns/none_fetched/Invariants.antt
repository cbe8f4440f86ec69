-- SPDX-License-Identifier: MIT
-- none of those so far fetched a question
use Rattle.std.proofs.Common.{◌≡◌, false, take}
use Rattle.std.specs.List.{All}
use Rattle.rrc_collate.specs.Turns.{is_fetched}
use Rattle.rrc_collate.proofs.turns.none_fetched.Given as goal

abbrev pub invariant-loop-task : goal.invariant-loop-task
invariant-loop-task l = All (λ task. is_fetched task.fate ≡ false) (take l.task-index l.tasks)
