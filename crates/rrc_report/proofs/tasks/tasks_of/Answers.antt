-- SPDX-License-Identifier: MIT
use Rattle.std.proofs.Common.{List, map}
use Rattle.rrc_collate.specs.declared.task.Task.{Task}
use Rattle.rrc_report.specs.Steps.{given_by, AreTasks}
use Rattle.rrc_report.proofs.TaskLemmas.{tasks_of_more, no_tasks_of}
use Rattle.rrc_report.proofs.tasks.tasks_of.Goals as goal

pub returns-in-None-clause-none : goal.returns-in-None-clause-none
returns-in-None-clause-none c =
    let i = c.loop-worker.worker in
    let one = c.index-done-worker.result in
    let none : (own : List Task) → AreTasks c.args.config.now c.args.trace.now c.args.questions.now (map (given_by i) one.answers) own → ⊥ =
    rw c.in-None.is at c.in_ok-own.ensures.none in
    λ tasks.
    no_tasks_of c.args.config.now c.args.trace.now c.args.questions.now i c.args.done.now one tasks c.loop-worker-test.true c.index-done-worker.is none

pub loop-worker-preserved : goal.loop-worker-preserved
loop-worker-preserved c =
    let i = c.loop-worker.worker in
    let one = c.index-done-worker.result in
    let own : AreTasks c.args.config.now c.args.trace.now c.args.questions.now (map (given_by i) one.answers) c.in-Some.own.items =
    rw c.in-Some.is at c.in_ok-own.ensures.some in
    rw c.in_ok-tasks-in-Some.ensures
    (tasks_of_more c.args.config.now c.args.trace.now c.args.questions.now i c.args.done.now one c.loop-worker.tasks.items c.in-Some.own.items
    c.loop-worker-test.true c.index-done-worker.is c.loop-worker.invariant own)
