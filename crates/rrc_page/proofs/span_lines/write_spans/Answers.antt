-- SPDX-License-Identifier: MIT
use Rattle.std.proofs.Common.{[], rules, ◌∙◌}
use Rattle.std.proofs.lemmas.Result.{on_ok_weaker}
use Rattle.std.specs.Prelude.{OnOk}
use Rattle.std.specs.Io.KnownBytes.{Appends}
use Rattle.rrc_page.specs.SpanLines.{all_spans_text}
use Rattle.rrc_text.proofs.OutputLemmas.{nothing_given}
use Rattle.rrc_page.proofs.span_lines.write_spans.Goals as goal

pub returns : goal.returns
returns g c =
    let contents = g.W.Write.contents in
    let start = contents c.args.writer.now in
    let text = all_spans_text c.args.wholes.now in
    let same = c.finish.ensures.same ∙ c.put_all_spans.ensures.same in
    let empty = nothing_given start c.in_ok-buffer.buffer c.in_ok-buffer.ensures in
    let given = c.put_all_spans.ensures.stands start [] empty in
    let bytes : OnOk c.finish.result (Appends start (contents c.finish.new.self.writer.now) text) =
    on_ok_weaker c.finish.result (λ ends. ends start text given) c.finish.ensures.ok in
    search rules
