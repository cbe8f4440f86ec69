-- SPDX-License-Identifier: MIT
-- what is noted of the parts so far, and what stands behind, is a line's turn
use Rattle.std.proofs.Common.{◌≡◌, ◌<◌, ℕ, length, get_or, drop, None}
use Rattle.rrc_collate.specs.Collated.{histories_of}
use Rattle.rrc_collate.specs.Turns.{turn_from}
use Rattle.rrc_collate.proofs.turns.turns_in.Given as goal

abbrev pub invariant-loop-part : goal.invariant-loop-part
invariant-loop-part l = record {
  size : length l.turns.items ≡ length l.fates;
  each : (line : ℕ) → line < length l.fates → turn_from (get_or l.fates line None) l.part (get_or l.turns.items line 0) line (histories_of (drop l.part l.wholes))
      ≡ turn_from (get_or l.fates line None) 0 0 line (histories_of l.wholes);
}
