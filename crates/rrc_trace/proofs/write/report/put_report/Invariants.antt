-- SPDX-License-Identifier: MIT
-- the lines so far were put, and the others are left
use Rattle.std.proofs.Common.{drop}
use Rattle.rrc_trace.specs.Report.{lines_text}
use Rattle.rrc_text.proofs.OutputLemmas.{Leaves}
use Rattle.rrc_trace.proofs.write.report.put_report.Given as goal

abbrev pub invariant-loop-number : goal.invariant-loop-number
invariant-loop-number g l = Leaves g.W.Write.contents l.initial.output l.output (lines_text 0 l.answers) (lines_text l.number (drop l.number l.answers))
