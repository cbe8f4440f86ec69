-- SPDX-License-Identifier: MIT
-- the offers so far were put, and the others are left
use Rattle.std.proofs.Common.{drop}
use Rattle.rrc_trace.specs.Report.{outcomes_text}
use Rattle.rrc_text.proofs.OutputLemmas.{Leaves}
use Rattle.rrc_trace.proofs.write.report.put_outcomes.Given as goal

abbrev pub invariant-loop-told : goal.invariant-loop-told
invariant-loop-told g l = Leaves g.W.Write.contents l.initial.output l.output (outcomes_text l.offers) (outcomes_text (drop l.told-index l.offers))
