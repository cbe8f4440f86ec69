-- SPDX-License-Identifier: MIT
-- The text of the spans that are left.
use Rattle.std.proofs.Common.{◌≡◌, ℕ, ◌+◌, List, ◌∷◌, ◌++◌, ap, ◌∙◌}
use Rattle.std.proofs.lemmas.List.Concat.{flat_map-append}
use Rattle.rrc_history.specs.declared.event.Event.{Event}
use Rattle.rrc_page.specs.SpanLines.{span_line, spans_text}
use Rattle.rrc_page.specs.Spans.{span_at, spans_from}

-- it begins with the span of the next event
pub next_span : (stale number : ℕ) (event : Event) (behind rest : List Event) → rest ≡ event ∷ behind
    → spans_text (spans_from stale number rest) ≡ spans_text (span_at stale number event behind) ++ spans_text (spans_from stale (number + 1) behind)
next_span stale number event behind rest is =
    ap (λ (events : List Event). spans_text (spans_from stale number events)) is
    ∙ flat_map-append span_line (span_at stale number event behind) (spans_from stale (number + 1) behind)
