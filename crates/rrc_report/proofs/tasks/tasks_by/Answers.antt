-- SPDX-License-Identifier: MIT
use Rattle.std.proofs.Common.{◌≡◌, ap, length, arith, ◌<◌, ◌∙◌, get_or, ◌++◌, [], ◌∷◌, rules}
use Rattle.rrc_collate.specs.declared.task.Task.{Task}
use Rattle.rrc_report.specs.Steps.{given_by, IsTaskOfLine}
use Rattle.rrc_report.proofs.TaskLemmas.{tasks_more, no_tasks}
use Rattle.rrc_report.proofs.tasks.tasks_by.Goals as goal

pub returns-in-None-clause-none : goal.returns-in-None-clause-none
returns-in-None-clause-none c =
    let items = c.as_slice-answered-items.result.now in
    let answers = c.args.done.now.answers in
    let i = c.loop-answered.answered-index in
    let one = c.answered-item.result in
    let size : length items ≡ length answers = ap length c.as_slice-answered-items.ensures in
    let within : i < length answers = omega (arith, size, c.loop-answered-test.true) in
    let is : one ≡ get_or answers i one = c.answered-item.is ∙ ap (λ list. get_or list i one) c.as_slice-answered-items.ensures in
    let none : (task : Task) → IsTaskOfLine c.args.config.now c.args.trace.now c.args.questions.now (given_by c.args.worker one) task → ⊥ =
    rw c.in-None.is at c.in_ok-task.ensures.none in
    λ tasks. no_tasks c.args.config.now c.args.trace.now c.args.questions.now c.args.worker i answers one tasks within is none

pub loop-answered-preserved : goal.loop-answered-preserved
loop-answered-preserved c =
    let items = c.as_slice-answered-items.result.now in
    let answers = c.args.done.now.answers in
    let i = c.loop-answered.answered-index in
    let one = c.answered-item.result in
    let size : length items ≡ length answers = ap length c.as_slice-answered-items.ensures in
    let within : i < length answers = omega (arith, size, c.loop-answered-test.true) in
    let is : one ≡ get_or answers i one = c.answered-item.is ∙ ap (λ list. get_or list i one) c.as_slice-answered-items.ensures in
    let task : IsTaskOfLine c.args.config.now c.args.trace.now c.args.questions.now (given_by c.args.worker one) c.in-Some.task =
    rw c.in-Some.is at c.in_ok-task.ensures.some in
    let added : c.push.new.self.items ≡ c.loop-answered.tasks.items ++ c.in-Some.task ∷ [] = search rules in
    rw added
    (tasks_more c.args.config.now c.args.trace.now c.args.questions.now c.args.worker i answers one c.loop-answered.tasks.items c.in-Some.task within is
    c.loop-answered.invariant task)
