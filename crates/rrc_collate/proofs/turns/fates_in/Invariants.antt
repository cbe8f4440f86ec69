-- SPDX-License-Identifier: MIT
-- what is known of the tasks so far, and what stands behind, is what became of a line
use Rattle.std.proofs.Common.{◌≡◌, ◌<◌, ℕ, length, get_or, drop, None}
use Rattle.rrc_collate.specs.Turns.{fate_from}
use Rattle.rrc_collate.proofs.turns.fates_in.Given as goal

abbrev pub invariant-loop-task : goal.invariant-loop-task
invariant-loop-task l = record {
  size : length l.fates.items ≡ l.lines;
  each : (line : ℕ) → line < l.lines → fate_from (get_or l.fates.items line None) line (drop l.task-index l.tasks) ≡ fate_from None line l.tasks;
}
