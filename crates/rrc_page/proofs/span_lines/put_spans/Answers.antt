-- SPDX-License-Identifier: MIT
use Rattle.std.proofs.Common.{ℕ, List, ap, subst, sym, ◌∙◌}
use Rattle.rrc_history.specs.declared.event.Event.{Event}
use Rattle.rrc_history.specs.declared.snapshot.Snapshot.{Snapshot}
use Rattle.rrc_page.specs.Fitting.{Fit}
use Rattle.rrc_page.proofs.Fits.{fit}
use Rattle.rrc_page.proofs.span_lines.put_spans.Goals as goal

pub put_spans_from-requires-clause-events : goal.put_spans_from-requires-clause-events
put_spans_from-requires-clause-events g c =
    let all = fit c.whole.inside.snapshot c.whole.inside.events c.whole.invariant.legal in
    let first = ap (λ (s : Snapshot). s.first) (c.behind-whole.view_is ∙ c.deref-2.ensures) in
    let own = subst (λ (events : List Event). Fit c.whole.inside.snapshot.first events) (sym c.as_slice.ensures) all in
    subst (λ (number : ℕ). Fit number c.as_slice.result.now) (sym first) own
