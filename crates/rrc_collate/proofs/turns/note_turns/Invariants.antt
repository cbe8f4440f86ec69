-- SPDX-License-Identifier: MIT
-- what is noted so far, and what stands behind, is a line's last event
use Rattle.std.proofs.Common.{◌≡◌, ◌<◌, ℕ, length, get_or, drop, cond, None}
use Rattle.rrc_collate.specs.Turns.{is_home, last_from}
use Rattle.rrc_collate.proofs.turns.note_turns.Given as goal

abbrev pub invariant-loop-passed : goal.invariant-loop-passed
invariant-loop-passed l = record {
  size : length l.turns.items ≡ length l.initial.turns.items;
  each : (line : ℕ) → line < length l.fates →
      cond (is_home l.part (get_or l.fates line None)) (last_from l.passed (get_or l.turns.items line 0) line (drop l.passed l.events)) (get_or l.turns.items line 0)
      ≡ cond (is_home l.part (get_or l.fates line None)) (last_from 0 (get_or l.initial.turns.items line 0) line l.events) (get_or l.initial.turns.items line 0);
}
