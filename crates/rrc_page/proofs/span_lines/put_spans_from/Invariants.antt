-- SPDX-License-Identifier: MIT
-- the spans of the events so far were put, and those of the others are left
use Rattle.std.proofs.Common.{length}
use Rattle.rrc_text.proofs.OutputLemmas.{Leaves}
use Rattle.rrc_page.specs.Fitting.{Fit}
use Rattle.rrc_page.specs.SpanLines.{spans_text}
use Rattle.rrc_page.specs.Spans.{spans_from}
use Rattle.rrc_page.proofs.span_lines.put_spans_from.Given as goal

abbrev pub invariant-loop-event : goal.invariant-loop-event
invariant-loop-event g l =
    let whole = spans_text (spans_from l.stale l.first l.events) in
    let rest = spans_text (spans_from l.stale l.number l.rest) in
    Fit l.number l.rest × Leaves g.W.Write.contents l.initial.output l.output whole rest

abbrev pub decreases-loop-event : goal.decreases-loop-event
decreases-loop-event g l = length l.rest
