-- SPDX-License-Identifier: MIT
-- the spans of the histories so far were put, and those of the others are left
use Rattle.std.proofs.Common.{drop}
use Rattle.rrc_text.proofs.OutputLemmas.{Leaves}
use Rattle.rrc_page.specs.SpanLines.{all_spans_text}
use Rattle.rrc_page.proofs.span_lines.put_all_spans.Given as goal

abbrev pub invariant-loop-whole : goal.invariant-loop-whole
invariant-loop-whole g l =
    Leaves g.W.Write.contents l.initial.output l.output (all_spans_text l.wholes) (all_spans_text (drop l.whole-index l.wholes))
