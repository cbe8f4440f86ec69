-- SPDX-License-Identifier: MIT
use Rattle.std.proofs.Common.{subst}
use Rattle.rrc_text.proofs.OutputLemmas.{less_left}
use Rattle.rrc_page.specs.Fitting.{Fit}
use Rattle.rrc_page.proofs.SpansLeft.{next_span}
use Rattle.rrc_page.proofs.span_lines.put_spans_from.Goals as goal

pub loop-event-preserved : goal.loop-event-preserved
loop-event-preserved g c =
    let is = c.in-Some.ensures.cases.0 in
    let fit = subst (Fit c.loop-event.number) is c.loop-event.invariant.0 in
    let split = next_span c.args.stale c.loop-event.number c.in-Some.event.now c.in-Some.behind.now c.loop-event.rest.now is in
    (fit.2, less_left c.loop-event.invariant.1 split c.put_span_at.ensures)
