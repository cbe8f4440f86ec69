-- SPDX-License-Identifier: MIT
use Rattle.std.proofs.Common.{◌≡◌, false, refl, subst, sym, ◌∙◌, arith}
use Rattle.std.specs.List.{All}
use Rattle.std.proofs.lemmas.List.{take_all}
use Rattle.std.proofs.lemmas.List.Elements.{All-more}
use Rattle.rrc_collate.specs.declared.task.Task.{Task}
use Rattle.rrc_collate.specs.Turns.{is_fetched}
use Rattle.rrc_collate.proofs.Fetched.{none_are_fetched}
use Rattle.rrc_collate.proofs.turns.none_fetched.Goals as goal

abbrev HasNotFetched : Task → Type 0
HasNotFetched task = is_fetched task.fate ≡ false

pub loop-task-preserved : goal.loop-task-preserved
loop-task-preserved c =
    All-more HasNotFetched c.args.tasks.now c.loop-task.task-index c.task-item.result c.loop-task-test.true c.loop-task.invariant
    (subst HasNotFetched c.task-item.is (sym c.is_fetched.ensures ∙ c.if-is_fetched.false))

pub returns : goal.returns
returns c =
    let whole = take_all c.loop-task.task-index c.args.tasks.now (omega (arith, c.loop-task-test.false)) in
    (λ _. subst (λ tasks. All HasNotFetched tasks) whole c.loop-task.invariant, λ _. refl)

pub returns-then-questions-eq0 : goal.returns-then-questions-eq0
returns-then-questions-eq0 c = (λ _. none_are_fetched c.args.questions c.args.tasks.now c.if-questions-eq0.true c.requires, λ _. refl)
