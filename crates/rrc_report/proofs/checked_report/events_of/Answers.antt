-- SPDX-License-Identifier: MIT
-- the events that fit what workers say that they did, by the tasks that were found
use Rattle.std.proofs.Common.{◌≡◌, List, Vec, Global, length, map, arith}
use Rattle.rrc_history.specs.declared.event.Event.{Event}
use Rattle.rrc_trace.specs.Questions.{questions_of}
use Rattle.rrc_collate.specs.Drawn.{DrawnOf}
use Rattle.rrc_collate.specs.Collated.{histories_of, FitsHistories}
use Rattle.rrc_report.specs.Steps.{given_from, AreTasks, AreFitting}
use Rattle.rrc_report.proofs.ReportLaws.{some_by, none_by, fitting_tasks}
use Rattle.rrc_report.proofs.checked_report.events_of.Goals as goal

-- the same of a vector of events
abbrev drawn : Vec DrawnOf Global → List (List Event)
drawn events = map (λ own. map (λ event. event.now) own.items) events.items

pub returns-clause-only : goal.returns-clause-only
returns-clause-only c =
    let config = c.args.config.now in
    let lines = c.args.trace.now in
    let done = c.args.done.now in
    let histories = histories_of c.args.wholes.now in
    let tasks = c.as_slice.result.now in
    let are : AreTasks config lines (questions_of lines) (given_from 0 done) tasks = search arith in
    let count : c.len.result ≡ length lines = cc in
    some_by (λ (e : Vec DrawnOf Global). (others : List (List Event)) → FitsHistories c.len.result config.workers tasks histories others → others ≡ drawn e)
    (λ (e : Vec DrawnOf Global). (others : List (List Event)) → AreFitting config lines done histories others → others ≡ drawn e) c.in_ok-collate.field-0
    (λ e only others fit. only others (fitting_tasks c.one_script.ensures config lines done histories others tasks c.len.result are count fit)) c.in_ok-collate.ensures.only

pub returns-clause-none : goal.returns-clause-none
returns-clause-none c =
    let config = c.args.config.now in
    let lines = c.args.trace.now in
    let done = c.args.done.now in
    let histories = histories_of c.args.wholes.now in
    let tasks = c.as_slice.result.now in
    let are : AreTasks config lines (questions_of lines) (given_from 0 done) tasks = search arith in
    let count : c.len.result ≡ length lines = cc in
    none_by ((others : List (List Event)) → FitsHistories c.len.result config.workers tasks histories others → ⊥)
    ((others : List (List Event)) → AreFitting config lines done histories others → ⊥) c.in_ok-collate.field-0
    (λ none others fit. none others (fitting_tasks c.one_script.ensures config lines done histories others tasks c.len.result are count fit)) c.in_ok-collate.ensures.strayed
