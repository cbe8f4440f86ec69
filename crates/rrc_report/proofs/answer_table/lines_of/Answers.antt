-- SPDX-License-Identifier: MIT
use Rattle.std.proofs.Common.{◌≡◌, ◌<◌, ◌≢◌, List, length, map, Bor, ap, subst, sym, ◌∙◌}
use Rattle.std.specs.List.{All, AllPairs}
use Rattle.std.proofs.lemmas.List.{length-map}
use Rattle.rrc_history.specs.declared.event.Event.{Event}
use Rattle.rrc_report.specs.declared.done.Answered.{Answered}
use Rattle.rrc_report.specs.AnswerTable.{AreIn, IsMissed}
use Rattle.rrc_report.specs.Steps.{given_from, AreComplete}
use Rattle.rrc_report.proofs.Completed.{as_answered}
use Rattle.rrc_report.proofs.Zips.{written_back}
use Rattle.rrc_report.proofs.Tables.{all_complete, bare, lines_below, lines_once, none_complete}
use Rattle.rrc_report.proofs.answer_table.lines_of.Goals as goal

pub fill-requires-clause-below : goal.fill-requires-clause-below
fill-requires-clause-below c =
    let given = given_from 0 c.args.done.items in
    let is : c.in_ok-given.given.items ≡ map as_answered given = c.in_ok-given.ensures ∙ sym (bare 0 c.args.done.items) in
    let size : length c.as_mut_slice.result.now ≡ c.args.count = ap length c.as_mut_slice.ensures.value ∙ c.in_ok-table.ensures in
    let below : All (λ one. one.line < c.args.count) c.in_ok-given.given.items =
    subst (All (λ one. one.line < c.args.count)) (sym is) (lines_below c.args.count given c.requires.shared_out.below) in
    subst (λ n. All (λ one. one.line < n) c.in_ok-given.given.items) (sym size) below

pub fill-requires-clause-once : goal.fill-requires-clause-once
fill-requires-clause-once c =
    let given = given_from 0 c.args.done.items in
    let is : c.in_ok-given.given.items ≡ map as_answered given = c.in_ok-given.ensures ∙ sym (bare 0 c.args.done.items) in
    let P : List Answered → Type 0 = AllPairs (λ earlier later. earlier.line ≢ later.line) in
    subst P (sym is) (lines_once given c.requires.shared_out.once)

pub fill-requires-clause-size : goal.fill-requires-clause-size
fill-requires-clause-size c =
    let given = given_from 0 c.args.done.items in
    let is : c.in_ok-given.given.items ≡ map as_answered given = c.in_ok-given.ensures ∙ sym (bare 0 c.args.done.items) in
    c.requires.size ∙ (sym (length-map given as_answered) ∙ ap length (sym is))

pub returns-then-not-branch-clause-none : goal.returns-then-not-branch-clause-none
returns-then-not-branch-clause-none c =
    let now : Bor Event → Event = λ event. event.now in
    let given = given_from 0 c.args.done.items in
    let events = map (λ own. map now own.items) c.args.events.now in
    let is : c.in_ok-given.given.items ≡ map as_answered given = c.in_ok-given.ensures ∙ sym (bare 0 c.args.done.items) in
    let missed = subst (λ given. IsMissed given events) is (c.in_ok-fill.ensures.missed c.if-not-branch.true) in
    λ answers. none_complete c.args.count given events answers missed

pub returns-clause-some : goal.returns-clause-some
returns-clause-some c =
    let now : Bor Event → Event = λ event. event.now in
    let given = given_from 0 c.args.done.items in
    let events = map (λ own. map now own.items) c.args.events.now in
    let is : c.in_ok-given.given.items ≡ map as_answered given = c.in_ok-given.ensures ∙ sym (bare 0 c.args.done.items) in
    let size : length c.fill.new.table ≡ c.args.count = c.fill.auto.table ∙ (ap length c.as_mut_slice.ensures.value ∙ c.in_ok-table.ensures) in
    let are = subst (λ given. AreIn c.fill.new.table given events) is (c.in_ok-fill.ensures.filled c.if-not-branch.false) in
    let same = ap length c.as_mut_slice.ensures.value in
    let room = c.as_mut_slice.ensures.len in
    let stays = c.fill.auto.table in
    let back = written_back c.in_ok-table.table.len c.fill.new.table c.in_ok-table.table.items (stays ∙ room) (sym same ∙ room) in
    let whole = all_complete c.args.count c.fill.new.table given events size are in
    subst (AreComplete c.args.count given events) (sym back ∙ sym c.from_vec.ensures) whole
