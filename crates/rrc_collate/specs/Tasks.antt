-- SPDX-License-Identifier: MIT
-- Tasks: the lines that workers say they did, worker by worker, and the events of their operations.
use Rattle.std.specs.Prelude.{◌≡◌, ℕ, ◌==◌, List, [], ◌∷◌, ◌++◌, length, slice_index_or, if◌then◌else◌}
use Rattle.std.specs.List.{AllZip}
use Rattle.rrc_history.specs.declared.event.Event.{Event}
use Rattle.rrc_collate.specs.declared.task.Task.{Task}
use Rattle.rrc_collate.specs.Calls.{AreCalls, going_to}
use Rattle.rrc_collate.specs.Draws.{hand_of}

-- the events of a task are of its operations, one each, in order of place
abbrev pub IsTaskOf : Task → List Event → Type 0
IsTaskOf task events = AreCalls task.line 0 task.operations events

-- what a worker's tasks have written into a part, task by task
abbrev pub written_by : ℕ → ℕ → List Task → List (List Event) → List Event
written_by worker part [] events = []
written_by worker part (task ∷ tasks) [] = []
written_by worker part (task ∷ tasks) (own ∷ others) =
    if task.worker == worker then going_to part task.operations own ++ written_by worker part tasks others else written_by worker part tasks others

-- the events are of the tasks, and each hand begins with those of its worker's tasks, in order
pub record AllFit (parts : List (List (List Event))) (tasks : List Task) (events : List (List Event)) (behind : ℕ → ℕ → List Event) : Type 0 where
  pub calls : AllZip IsTaskOf tasks events
  pub own : (part worker : ℕ) → hand_of parts part worker ≡ written_by worker part tasks events ++ behind part worker

-- the events are of the tasks, and were taken from the hands
pub record AreDone (parts : List (List (List Event))) (tasks : List Task) (events : List (List Event)) (left : List (List (List Event))) : Type 0 where
  pub fit : AllFit parts tasks events (λ part worker. hand_of left part worker)
  pub parts_stay : length left ≡ length parts
  pub workers_stay : (part : ℕ) → length (slice_index_or left part []) ≡ length (slice_index_or parts part [])

-- no other events fit the tasks, and what fits them leaves what is left
abbrev pub AreOnlyDone : List (List (List Event)) → List Task → List (List Event) → List (List (List Event)) → Type 0
AreOnlyDone parts tasks done left =
    (events : List (List Event)) (behind : ℕ → ℕ → List Event) → AllFit parts tasks events behind
    → (events ≡ done) × ((part worker : ℕ) → hand_of left part worker ≡ behind part worker)

-- no events fit the tasks, whatever is left
abbrev pub CanNotBeDone : List (List (List Event)) → List Task → Type 0
CanNotBeDone parts tasks = (events : List (List Event)) (behind : ℕ → ℕ → List Event) → AllFit parts tasks events behind → ⊥
