-- SPDX-License-Identifier: MIT
-- `collate` from what its steps found
use Rattle.std.proofs.Common.{◌≡◌, List, Vec, Global, length, map, ap, ◌∙◌, arith}
use Rattle.rrc_history.specs.declared.event.Event.{Event}
use Rattle.rrc_trace.specs.declared.answer.Answer.{Answer}
use Rattle.rrc_collate.specs.Drawn.{DrawnOf}
use Rattle.rrc_collate.specs.Collated.{histories_of}
use Rattle.rrc_report.specs.declared.report.Report.{Report}
use Rattle.rrc_report.specs.Reports.{lines_done}
use Rattle.rrc_report.specs.Steps.{given_from, AreFitting, ArePartHistories, AreComplete}
use Rattle.rrc_report.proofs.ReportLaws.{some_of, none_of, parts_counted, count_stray, event_stray, answer_stray, found_collated, found_holds}
use Rattle.rrc_report.proofs.checked_report.collate.Goals.{then-len-config-via-then-len-config, then-len-config-via-else-len-config+then-len-config-2}
use Rattle.rrc_report.proofs.checked_report.collate.Goals as goal

-- the events of tasks, as lists
abbrev shown : List DrawnOf → List (List Event)
shown events = map (λ own. map (λ event. event.now) own.items) events

pub returns-then-len-config-clause-err : goal.returns-then-len-config-clause-err
returns-then-len-config-clause-err c =
    let config = c.args.config.now in
    let shelves = c.args.shelves.items in
    let done = c.args.done.items in
    count_stray config c.args.trace.now shelves done
    (λ (workers : length done ≡ config.workers) (parts : length shelves ≡ config.parts).
    elim c.then-len-config.branch [
      | then-len-config-via-then-len-config w ↦ w.if-len-config.true (omega arith)
      | then-len-config-via-else-len-config+then-len-config-2 w ↦ w.if-len-config-2.true (omega arith)
    ])

pub events_of-requires-clause-parts : goal.events_of-requires-clause-parts
events_of-requires-clause-parts c =
    let config = c.args.config.now in
    let shelves = c.args.shelves.items in
    let parts : ArePartHistories config.rules shelves c.in-Some.wholes = search arith in
    let size : length shelves ≡ config.parts = omega arith in
    ap length c.as_slice.ensures ∙ (parts_counted config.rules shelves c.in-Some.wholes parts ∙ size)

pub returns-in_default-2-clause-err : goal.returns-in_default-2-clause-err
returns-in_default-2-clause-err c =
    let config = c.args.config.now in
    let lines = c.args.trace.now in
    let shelves = c.args.shelves.items in
    let done = c.args.done.items in
    let wholes = c.in-Some.wholes in
    let parts : ArePartHistories config.rules shelves wholes = search arith in
    let same : c.as_slice-2.result.now ≡ done = c.as_slice-2.ensures.value in
    let whole : c.as_slice.result.now ≡ wholes = c.as_slice.ensures in
    let none = none_of ((others : List (List Event)) → AreFitting config lines c.as_slice-2.result.now (histories_of c.as_slice.result.now) others → ⊥) c.in_ok-events.field-0 c.in_default-2.is c.in_ok-events.ensures.none in
    event_stray config lines shelves done wholes parts (rw (same, whole) at none)

pub returns-in_default-3-clause-err : goal.returns-in_default-3-clause-err
returns-in_default-3-clause-err c =
    let config = c.args.config.now in
    let lines = c.args.trace.now in
    let shelves = c.args.shelves.items in
    let done = c.args.done.items in
    let wholes = c.in-Some.wholes in
    let events = shown c.in-Some-2.events.items in
    let parts : ArePartHistories config.rules shelves wholes = search arith in
    let same : c.as_slice-2.result.now ≡ done = c.as_slice-2.ensures.value in
    let whole : c.as_slice.result.now ≡ wholes = c.as_slice.ensures in
    let count : c.len-count.result ≡ length lines = cc in
    let handed : c.as_slice-4.result.now ≡ c.in-Some-2.events.items = c.as_slice-4.ensures.value in
    let only = some_of (λ (e : Vec DrawnOf Global). (others : List (List Event)) → AreFitting config lines c.as_slice-2.result.now (histories_of c.as_slice.result.now) others → others ≡ shown e.items) c.in_ok-events.field-0 c.in-Some-2.events c.in-Some-2.is c.in_ok-events.ensures.only in
    let none = none_of ((answers : List Answer) → AreComplete c.len-count.result (given_from 0 done) (shown c.as_slice-4.result.now) answers → ⊥) c.in_ok-lines.field-0 c.in_default-3.is c.in_ok-lines.ensures.none in
    answer_stray config lines shelves done wholes events parts (rw (same, whole) at only) (rw (count, handed) at none)

pub returns-clause-collated : goal.returns-clause-collated
returns-clause-collated c =
    let config = c.args.config.now in
    let lines = c.args.trace.now in
    let shelves = c.args.shelves.items in
    let done = c.args.done.items in
    let events = shown c.in-Some-2.events.items in
    let report : Report = record { lines = c.in-Some-3.lines; shares = c.in_ok-shares.shares; wholes = c.in-Some.wholes } in
    let workers : length done ≡ config.workers = omega arith in
    let size : length shelves ≡ config.parts = omega arith in
    let count : c.len-count.result ≡ length lines = cc in
    let shares : report.shares ≡ map lines_done done = search arith in
    let parts : ArePartHistories config.rules shelves report.wholes = search arith in
    let fit : AreFitting config lines done (histories_of report.wholes) events = search arith in
    let complete : AreComplete c.len-count.result (given_from 0 done) events report.lines = search arith in
    found_collated config lines shelves done events report c.len-count.result workers size count shares parts fit complete

pub returns-clause-holds : goal.returns-clause-holds
returns-clause-holds c =
    let rules = c.args.config.now.rules in
    let shelves = c.args.shelves.items in
    let done = c.args.done.items in
    let events = shown c.in-Some-2.events.items in
    let report : Report = record { lines = c.in-Some-3.lines; shares = c.in_ok-shares.shares; wholes = c.in-Some.wholes } in
    let shares : report.shares ≡ map lines_done done = search arith in
    let parts : ArePartHistories rules shelves report.wholes = search arith in
    let complete : AreComplete c.len-count.result (given_from 0 done) events report.lines = search arith in
    found_holds rules shelves done events report c.len-count.result shares parts complete
