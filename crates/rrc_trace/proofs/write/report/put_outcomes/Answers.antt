-- SPDX-License-Identifier: MIT
use Rattle.std.proofs.Common.{ap}
use Rattle.rrc_trace.specs.Report.{outcomes_text}
use Rattle.rrc_text.proofs.OutputLemmas.{then, front_left, less_left}
use Rattle.rrc_trace.proofs.write.report.put_outcomes.Goals as goal

pub loop-told-preserved : goal.loop-told-preserved
loop-told-preserved g c =
    let split = ap (outcomes_text) (front_left c.args.offers.now c.loop-told.told-index c.told-item.result c.loop-told-test.true c.told-item.is) in
    less_left c.loop-told.invariant split (then c.put_word.ensures c.put_told.ensures)
