-- SPDX-License-Identifier: MIT
use Rattle.std.proofs.Common.{ap}
use Rattle.rrc_page.specs.SpanLines.{all_spans_text}
use Rattle.rrc_text.proofs.OutputLemmas.{front_left, less_left}
use Rattle.rrc_page.proofs.span_lines.put_all_spans.Goals as goal

pub loop-whole-preserved : goal.loop-whole-preserved
loop-whole-preserved g c =
    let left = front_left c.args.wholes.now c.loop-whole.whole-index c.whole-item.result c.loop-whole-test.true c.whole-item.is in
    less_left c.loop-whole.invariant (ap all_spans_text left) c.put_spans.ensures
