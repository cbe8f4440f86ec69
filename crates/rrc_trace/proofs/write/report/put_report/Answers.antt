-- SPDX-License-Identifier: MIT
use Rattle.std.proofs.Common.{ap}
use Rattle.rrc_trace.specs.Report.{lines_text}
use Rattle.rrc_text.proofs.OutputLemmas.{front_left, less_left}
use Rattle.rrc_trace.proofs.write.report.put_report.Goals as goal

pub loop-number-preserved : goal.loop-number-preserved
loop-number-preserved g c =
    let split = ap (lines_text c.loop-number.number) (front_left c.args.answers.now c.loop-number.number c.index-answers-number.result c.loop-number-test.true c.index-answers-number.is) in
    less_left c.loop-number.invariant split c.put_line.ensures
