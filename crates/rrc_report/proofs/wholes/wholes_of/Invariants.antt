-- SPDX-License-Identifier: MIT
-- the histories so far are those of the shelves so far, and the other shelves are still to come
use Rattle.std.proofs.Common.{◌≡◌, ◌++◌}
use Rattle.std.specs.Vec.Iter.{into_iter_items}
use Rattle.rrc_report.specs.Steps.{ArePartHistories}
use Rattle.rrc_report.proofs.wholes.wholes_of.Given as goal

abbrev pub invariant-loop-shelf : goal.invariant-loop-shelf
invariant-loop-shelf l = record {
  parts : ArePartHistories l.rules l.yielded l.wholes.items;
  rest : l.yielded ++ into_iter_items l.shelf-iterator ≡ l.fn.shelves.items;
}
