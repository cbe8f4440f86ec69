-- SPDX-License-Identifier: MIT
-- what the workers so far say that they did, and then what the others say
use Rattle.std.proofs.Common.{◌≡◌, ◌++◌}
use Rattle.std.specs.Vec.Iter.{into_iter_items}
use Rattle.rrc_report.specs.AnswerTable.{answered_by}
use Rattle.rrc_report.proofs.answer_table.answered_by.Given as goal

abbrev pub invariant-loop-one : goal.invariant-loop-one
invariant-loop-one l = l.all.items ++ answered_by (into_iter_items l.one-iterator) ≡ answered_by l.fn.done.items
