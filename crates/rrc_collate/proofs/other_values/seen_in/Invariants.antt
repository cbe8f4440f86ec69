-- SPDX-License-Identifier: MIT
-- what was seen so far, and what stands behind, is all that stands in a class
use Rattle.std.proofs.Common.{◌≡◌, ◌<◌, ℕ, length, get_or, drop}
use Rattle.rrc_collate.specs.declared.other_values.Seen.TheVariants.{Nothing}
use Rattle.rrc_collate.specs.OtherValues.{seen_from}
use Rattle.rrc_collate.proofs.other_values.seen_in.Given as goal

abbrev pub invariant-loop-valued : goal.invariant-loop-valued
invariant-loop-valued l = record {
  size : length l.seen.items ≡ l.classes;
  each : (class : ℕ) → class < l.classes → seen_from (get_or l.seen.items class Nothing) class (drop l.valued-index l.present) ≡ seen_from Nothing class l.present;
}
