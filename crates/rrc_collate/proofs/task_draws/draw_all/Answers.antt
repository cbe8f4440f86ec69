-- SPDX-License-Identifier: MIT
use Rattle.std.proofs.Common.{◌≡◌, ◌+◌, ◌++◌, ◌∷◌, [], List, Bor, take, drop, map, ap, subst, sym, ◌∙◌, arith}
use Rattle.std.specs.Prelude.{IfSome, IfNone}
use Rattle.std.proofs.lemmas.List.{drop_more, drop_all, take_more}
use Rattle.rrc_history.specs.declared.event.Event.{Event}
use Rattle.rrc_collate.specs.Drawn.{DrawnOf}
use Rattle.rrc_collate.specs.Draws.{IsDrawn, IsOnlyDraw, CanNotDraw}
use Rattle.rrc_collate.specs.Tasks.{AreDone}
use Rattle.rrc_collate.proofs.HandLemmas.{shown, shown_push}
use Rattle.rrc_collate.proofs.TaskLemmas.{all_fit_none, all_fit_on, all_fit_all, done_more, AllFitOn}
use Rattle.rrc_collate.proofs.task_draws.draw_all.Goals as goal

pub returns-in-None-clause-none : goal.returns-in-None-clause-none
returns-in-None-clause-none c =
    let parts = c.loop-task.parts in
    let tasks = c.args.tasks.now in
    let i = c.loop-task.task-index in
    let task = c.task-item.result in
    let can_not = CanNotDraw parts task.worker task.line task.operations in
    let none = subst (λ found. IfNone found can_not) c.in-None.is c.in_ok-draw.ensures.none in
    let behind : drop i tasks ≡ task ∷ drop (i + 1) tasks = drop_more tasks i task c.loop-task-test.true ∙ ap (λ t. t ∷ drop (i + 1) tasks) (sym c.task-item.is) in
    let now : Bor Event → Event = λ borrowed. borrowed.now in
    let items : DrawnOf → List (Bor Event) = λ own. own.items in
    let done = shown items now c.loop-task.events.items in
    λ events behinds fit.
    let rest = subst (λ ts. AllFitOn parts ts done events behinds) behind (c.loop-task.invariant.rest events behinds fit) in
    all_fit_none parts task (drop (i + 1) tasks) rest.others behinds none rest.fit

pub loop-task-preserved : goal.loop-task-preserved
loop-task-preserved c =
    let parts = c.loop-task.parts in
    let left = c.draw.new.parts in
    let tasks = c.args.tasks.now in
    let i = c.loop-task.task-index in
    let task = c.task-item.result in
    let own = c.in-Some.own in
    let now : Bor Event → Event = λ borrowed. borrowed.now in
    let items : DrawnOf → List (Bor Event) = λ own. own.items in
    let done = shown items now c.loop-task.events.items in
    let drawn = map now own.items in
    let line = task.line in
    let script = task.operations in
    let fits : DrawnOf → Type 0 =
    λ own. IsDrawn parts task.worker line script (map now own.items) left in
    let alone : DrawnOf → Type 0 =
    λ own. IsOnlyDraw parts task.worker line script (map now own.items) left in
    let is_drawn = subst (λ found. IfSome found fits) c.in-Some.is c.in_ok-draw.ensures.drawn in
    let only = subst (λ found. IfSome found alone) c.in-Some.is c.in_ok-draw.ensures.only in
    let behind : drop i tasks ≡ task ∷ drop (i + 1) tasks = drop_more tasks i task c.loop-task-test.true ∙ ap (λ t. t ∷ drop (i + 1) tasks) (sym c.task-item.is) in
    let more : take (i + 1) tasks ≡ take i tasks ++ task ∷ [] = take_more tasks i task c.loop-task-test.true ∙ ap (λ t. take i tasks ++ t ∷ []) (sym c.task-item.is) in
    let pushed : shown items now c.push.new.self.items ≡ done ++ drawn ∷ [] =
    shown_push items now c.loop-task.events.items c.push.new.self.items own c.in_ok-push-in-Some.ensures.items in
    record {
      done =
          subst (λ es. AreDone c.args.parts.now (take (i + 1) tasks) es left) (sym pushed)
          (subst (λ ts. AreDone c.args.parts.now ts (done ++ drawn ∷ []) left) (sym more)
          (done_more c.args.parts.now parts left (take i tasks) done task drawn c.loop-task.invariant.done is_drawn));
      rest = λ events behinds fit.
          let rest = subst (λ ts. AllFitOn parts ts done events behinds) behind (c.loop-task.invariant.rest events behinds fit) in
          subst (λ es. AllFitOn left (drop (i + 1) tasks) es events behinds) (sym pushed)
          (all_fit_on parts left task (drop (i + 1) tasks) drawn done events behinds is_drawn only rest);
    }

pub returns-clause-only : goal.returns-clause-only
returns-clause-only c =
    let none = drop_all c.loop-task.task-index c.args.tasks.now (omega (arith, c.loop-task-test.false)) in
    let now : Bor Event → Event = λ borrowed. borrowed.now in
    let items : DrawnOf → List (Bor Event) = λ own. own.items in
    let done = shown items now c.loop-task.events.items in
    λ events behinds fit.
    all_fit_all c.loop-task.parts done events behinds
    (subst (λ ts. AllFitOn c.loop-task.parts ts done events behinds) none (c.loop-task.invariant.rest events behinds fit))
