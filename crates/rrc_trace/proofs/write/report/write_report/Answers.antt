-- SPDX-License-Identifier: MIT
use Rattle.std.proofs.Common.{[], rules, ◌∙◌}
use Rattle.std.proofs.lemmas.Result.{on_ok_weaker, on_err_weaker}
use Rattle.std.specs.Prelude.{OnOk, IfErr}
use Rattle.std.specs.Io.KnownBytes.{Appends}
use Rattle.rrc_trace.specs.Report.{report_text}
use Rattle.rrc_text.specs.Writer.{LeavesText}
use Rattle.rrc_text.proofs.OutputLemmas.{nothing_given, leaves_front}
use Rattle.rrc_trace.proofs.write.report.write_report.Goals as goal

pub returns-clause-ok : goal.returns-clause-ok
returns-clause-ok g c =
    let contents = g.W.Write.contents in
    let start = contents c.args.writer.now in
    let text = report_text c.args.answers.now in
    let same = c.finish.ensures.same ∙ c.put_report.ensures.same in
    let given = c.put_report.ensures.stands start [] (nothing_given start c.in_ok-buffer.buffer c.in_ok-buffer.ensures) in
    let bytes : OnOk c.finish.result (Appends start (contents c.finish.new.self.writer.now) text) =
    on_ok_weaker c.finish.result (λ ends. ends start text given) c.finish.ensures.ok in
    search rules

pub returns-clause-err : goal.returns-clause-err
returns-clause-err g c =
    let contents = g.W.Write.contents in
    let start = contents c.args.writer.now in
    let after = contents c.finish.new.self.writer.now in
    let text = report_text c.args.answers.now in
    let same = c.finish.ensures.same ∙ c.put_report.ensures.same in
    let given = c.put_report.ensures.stands start [] (nothing_given start c.in_ok-buffer.buffer c.in_ok-buffer.ensures) in
    let front = on_err_weaker c.finish.result (λ ends. ends start text given) c.finish.ensures.front in
    let leaves : IfErr c.finish.result (LeavesText start after text) = leaves_front c.finish.result start after text c.finish.ensures.err front in
    search rules
