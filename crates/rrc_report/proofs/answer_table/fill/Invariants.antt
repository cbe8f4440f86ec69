-- SPDX-License-Identifier: MIT
-- the answers of the lines so far stand in the table, and the others are still to come
use Rattle.std.proofs.Common.{◌≡◌, ◌++◌, length, map, take}
use Rattle.std.specs.Vec.Iter.{into_iter_items}
use Rattle.rrc_report.specs.AnswerTable.{AreIn}
use Rattle.rrc_report.proofs.answer_table.fill.Given as goal

abbrev pub invariant-loop-one : goal.invariant-loop-one
invariant-loop-one l = record {
  place : l.place ≡ length l.yielded;
  rest : l.yielded ++ into_iter_items l.one-iterator ≡ l.fn.given.items;
  filled : AreIn l.table l.yielded (take l.place (map (λ own. map (λ event. event.now) own.items) l.events));
}
