-- SPDX-License-Identifier: MIT
-- what is left rises from the table exactly where all of the values rise from the first one
use Rattle.std.proofs.Common.{◌≡◌, drop, replicate, length}
use Rattle.rrc_collate.proofs.FallLemmas.{rises}
use Rattle.rrc_collate.proofs.falls.never_falls.Given as goal

abbrev pub invariant-loop-next : goal.invariant-loop-next
invariant-loop-next l = record {
  size : length l.lasts.items ≡ l.classes;
  same : rises l.lasts.items (drop l.next-index l.values) ≡ rises (replicate l.classes 0) l.values;
}
