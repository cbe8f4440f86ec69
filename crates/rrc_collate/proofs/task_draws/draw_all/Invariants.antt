-- SPDX-License-Identifier: MIT
-- the tasks so far are done, and what fits all tasks is what they took and what fits the rest of them
use Rattle.std.proofs.Common.{ℕ, List, take, drop}
use Rattle.rrc_history.specs.declared.event.Event.{Event}
use Rattle.rrc_collate.specs.Tasks.{AllFit, AreDone}
use Rattle.rrc_collate.proofs.HandLemmas.{shown}
use Rattle.rrc_collate.proofs.TaskLemmas.{AllFitOn}
use Rattle.rrc_collate.proofs.task_draws.draw_all.Given as goal

abbrev pub invariant-loop-task : goal.invariant-loop-task
invariant-loop-task l = record {
  done : AreDone l.initial.parts (take l.task-index l.tasks) (shown (λ own. own.items) (λ event. event.now) l.events.items) l.parts;
  rest : (events : List (List Event)) (behind : ℕ → ℕ → List Event) → AllFit l.initial.parts l.tasks events behind
      → AllFitOn l.parts (drop l.task-index l.tasks) (shown (λ own. own.items) (λ event. event.now) l.events.items) events behind;
}
