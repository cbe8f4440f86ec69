-- SPDX-License-Identifier: MIT
use Rattle.std.proofs.Common.{◌≡◌, ◌+◌, ℕ, ap, ◌∙◌, subst}
use Rattle.rrc_history.specs.Lives.{ttl_of, span}
use Rattle.rrc_text.specs.Output.{Puts}
use Rattle.rrc_text.proofs.OutputLemmas.{then}
use Rattle.rrc_page.specs.SpanLines.{limits_fields}
use Rattle.rrc_page.proofs.Limits.{span_none}
use Rattle.rrc_page.proofs.span_lines.put_span.Goals as goal

pub returns : goal.returns
returns g c =
    let offer = c.args.offer.now in
    let puts = Puts g.W.Write.contents c.put_word.new.output c.put_limits.new.output in
    let fresh : c.limit_of-fresh.result ≡ offer.moment + ttl_of offer.body =
    c.limit_of-fresh.ensures ∙ ap (λ (seconds : ℕ). offer.moment + seconds) (span_none offer.body) in
    let until = subst (λ (moment : ℕ). puts (limits_fields c.limit_of-fresh.result moment c.args.ending)) c.limit_of-until.ensures c.put_limits.ensures in
    let both = subst (λ (moment : ℕ). puts (limits_fields moment (offer.moment + span c.args.stale offer.body) c.args.ending)) fresh until in
    then c.put_stored.ensures (then c.put_word.ensures both)
