-- SPDX-License-Identifier: MIT
use Rattle.std.proofs.Common.{◌≡◌, List, Bor, Option, map, sym, ap, subst, ◌∙◌}
use Rattle.std.specs.Prelude.{IfOk}
use Rattle.rrc_history.specs.declared.event.Event.{Event}
use Rattle.rrc_trace.specs.declared.answer.Told.{Told}
use Rattle.rrc_report.specs.Completions.{told_before}
use Rattle.rrc_report.proofs.ToldSteps.{before_missed, before_nothing, before_told, split_now}
use Rattle.rrc_report.proofs.completions.told_before.Goals as goal

abbrev now : Bor Event → Event
now event = event.now

pub returns-in-None : goal.returns-in-None
returns-in-None c = sym (before_nothing now c.args.told.now c.args.reply.now c.args.events.now c.in-None.ensures.cases)

pub returns-then-not-replies : goal.returns-then-not-replies
returns-then-not-replies c =
    let before = c.in-Some.before.now in
    let last = c.in-Some.last.now in
    sym (ap (told_before c.args.told.now c.args.reply.now) (split_now now c.args.events.now before last c.in-Some.ensures.cases.0)
    ∙ before_missed c.args.told.now c.args.reply.now (map now before) (now last) (sym c.replies.ensures ∙ c.if-not-replies.true))

pub returns-else-not-replies : goal.returns-else-not-replies
returns-else-not-replies c =
    let before = c.in-Some.before.now in
    let last = c.in-Some.last.now in
    let same =
    ap (told_before c.args.told.now c.args.reply.now) (split_now now c.args.events.now before last c.in-Some.ensures.cases.0)
    ∙ before_told c.args.told.now c.args.reply.now (map now before) (now last) (sym c.replies.ensures ∙ c.if-not-replies.false) in
    subst (λ (told : Option (List Told)). IfOk c.all_told_by.result (λ found. found ≡ told)) (sym same) c.all_told_by.ensures
