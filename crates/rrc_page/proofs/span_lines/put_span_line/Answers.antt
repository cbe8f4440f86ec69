-- SPDX-License-Identifier: MIT
use Rattle.std.proofs.Common.{◌≡◌, ◌+◌, [], ◌∷◌, ◌++◌, Option, ap, ◌∙◌, subst}
use Rattle.rrc_history.specs.Fits.{OfferOf}
use Rattle.rrc_text.specs.Output.{Puts}
use Rattle.rrc_text.proofs.OutputLemmas.{then}
use Rattle.rrc_page.specs.declared.spans.Ending.{Ending}
use Rattle.rrc_page.specs.SpanLines.{span_text}
use Rattle.rrc_page.specs.Spans.{ending_in, span_ending}
use Rattle.rrc_page.proofs.span_lines.put_span_line.Goals as goal

pub returns : goal.returns
returns g c =
    let next = c.args.number + 1 in
    let is : c.ending_in-ending.result ≡ ending_in c.args.offer.now.key next c.args.behind.now =
    c.ending_in-ending.ensures ∙ ap (λ (offer : OfferOf). ending_in offer.key next c.args.behind.now) c.offer.view_is in
    let puts = Puts g.W.Write.contents c.args.output.now c.put_word.new.output in
    let span = span_ending c.args.stale c.args.number c.args.tag c.args.offer.now in
    subst (λ (ending : Option Ending). puts (span_text (span ending) ++ 10 ∷ [])) is (then c.put_span.ensures c.put_word.ensures)
