-- SPDX-License-Identifier: MIT
-- the counts so far were put, and the others are left
use Rattle.std.proofs.Common.{drop}
use Rattle.rrc_trace.specs.Report.{counts_text}
use Rattle.rrc_text.proofs.OutputLemmas.{Leaves}
use Rattle.rrc_trace.proofs.write.report.put_counts.Given as goal

abbrev pub invariant-loop-count : goal.invariant-loop-count
invariant-loop-count g l = Leaves g.W.Write.contents l.initial.output l.output (counts_text l.counts) (counts_text (drop l.count-index l.counts))
