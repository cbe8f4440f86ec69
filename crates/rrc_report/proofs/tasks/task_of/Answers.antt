-- SPDX-License-Identifier: MIT
use Rattle.std.proofs.Common.{◌≡◌, ◌∙◌, List, length, refl, subst, Some}
use Rattle.std.specs.Prelude.{slice_get}
use Rattle.std.proofs.lemmas.Option.{slice_get_read}
use Rattle.rrc_trace.specs.declared.line.Line.{Line}
use Rattle.rrc_script.specs.Scripts.{HasScript}
use Rattle.rrc_report.proofs.tasks.task_of.Goals as goal

pub returns-clause-some : goal.returns-clause-some
returns-clause-some c =
    let number = c.args.answered.now.line in
    let line = c.in-Some.line.now in
    let items = c.as_slice.result.now in
    let found = c.in-Some.ensures.lookup in
    let at : slice_get items number ≡ Some line = slice_get_read items (length items) number line refl found.3.0 found.1 in
    let script : HasScript c.args.config.now c.args.questions.now line c.args.answered.now.answer c.in-Some-2.script =
    rw c.in-Some-2.is at c.in_ok-script.ensures.some in
    record {
      line = line;
      line_is = subst (λ (lines : List Line). slice_get lines number ≡ Some line) (c.as_slice.ensures ∙ c.trace.view_is) at;
      worker_is = refl;
      number_is = refl;
      script = script;
    }
