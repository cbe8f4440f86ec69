-- SPDX-License-Identifier: MIT
-- When what workers say that they did fits the histories of the parts.
use Rattle.std.specs.Prelude.{◌≡◌, ◌≢◌, ◌<◌, ℕ, zero, suc, ◌==◌, List, [], ◌∷◌, ◌++◌, length, map, filter, slice_index_or, Bool, if◌then◌else◌}
use Rattle.std.specs.List.{All, AllZip, Contains}
use Rattle.rrc_history.specs.declared.event.Event.{Event}
use Rattle.rrc_history.specs.declared.event.Tag.{Tag}
use Rattle.rrc_history.specs.declared.chains.Whole.{Whole}
use Rattle.rrc_collate.specs.declared.valued.Valued.{Valued}
use Rattle.rrc_collate.specs.declared.task.Task.{Task}
use Rattle.rrc_collate.specs.declared.task.Fate.{Fate}
use Rattle.rrc_collate.specs.declared.task.Fate.TheVariants.{Plain, Joined, Fetched}
use Rattle.rrc_collate.specs.Words.{NeverFalls, AreSharedOut, class_of}
use Rattle.rrc_collate.specs.Calls.{tag_of}
use Rattle.rrc_collate.specs.Hands.{AreNamed, is_of, events_of}
use Rattle.rrc_collate.specs.Tasks.{IsTaskOf, written_by}

-- which worker took which line, in the order of the tasks
abbrev pub taken_by : List Task → List Valued
taken_by tasks = map (λ task. record { class = task.worker; value = task.line }) tasks

-- the events of a history that are of a worker's lines, in order
abbrev pub own_events : ℕ → List Task → List Event → List Event
own_events worker tasks history = filter (λ event. is_of worker (class_of (tag_of event).line (taken_by tasks))) history

-- The parts' histories are what the workers' tasks wrote into them.
-- shared_out: each line below a count was taken by one worker, once, and no other line was
-- rising: no worker did a line behind a greater one
-- named: no event names a line that the trace has not
-- calls: the events of a task are of the operations that its line calls for, one each, in order of place
-- in_order: the events of a worker's lines in a part are those of its tasks that go there, task by task: so each operation stands in its
-- part once, and in its worker's order
pub record AreInOrder (lines workers : ℕ) (tasks : List Task) (histories events : List (List Event)) : Type 0 where
  pub shared_out : AreSharedOut lines (taken_by tasks)
  pub rising : NeverFalls (taken_by tasks)
  pub named : All (λ history. AreNamed lines history) histories
  pub calls : AllZip IsTaskOf tasks events
  pub in_order : (worker part : ℕ) → worker < workers → part < length histories
      → own_events worker tasks (slice_index_or histories part []) ≡ written_by worker part tasks events

-- a line fetched a question
abbrev pub IsFetchOf : ℕ → Fate → Type 0
IsFetchOf question Plain = ⊥
IsFetchOf question (Joined other) = ⊥
IsFetchOf question (Fetched other home) = other ≡ question

-- a task that fetched a question, of another worker
pub record HasFetcher (tasks : List Task) (worker question : ℕ) : Type 0 where
  pub fetcher : Task
  pub is_task : Contains tasks fetcher
  pub fetched : IsFetchOf question fetcher.fate
  pub other : fetcher.worker ≢ worker

-- who joined a fetch had a fetcher to join
abbrev pub IsJoinedTo : List Task → ℕ → Fate → Type 0
IsJoinedTo tasks worker Plain = Unit {0}
IsJoinedTo tasks worker (Joined question) = HasFetcher tasks worker question
IsJoinedTo tasks worker (Fetched question home) = Unit {0}

-- the number of a line's last event in a history, counted from 1, or 0
abbrev pub last_behind : Bool → ℕ → ℕ
last_behind own zero = if own then 1 else 0
last_behind own (suc last) = suc (suc last)

abbrev pub last_of : ℕ → List Event → ℕ
last_of line [] = 0
last_of line (event ∷ behind) = last_behind ((tag_of event).line == line) (last_of line behind)

-- what became of a line
abbrev pub fate_of : ℕ → List Task → Fate
fate_of line [] = Plain
fate_of line (task ∷ tasks) = if task.line == line then task.fate else fate_of line tasks

-- the question that a line fetched, and its turn: the number of the line's last event in the part of the question's name
abbrev pub turn_by : List (List Event) → ℕ → Fate → List Valued
turn_by histories line Plain = []
turn_by histories line (Joined question) = []
turn_by histories line (Fetched question home) = record { class = question; value = last_of line (slice_index_or histories home []) } ∷ []

-- an ask, which every fetch begins with, says nothing of the fetch; what stands behind it does
abbrev pub turn_at : List Task → List (List Event) → Tag → List Valued
turn_at tasks histories tag = if tag.place == 0 then [] else turn_by histories tag.line (fate_of tag.line tasks)

-- the questions that events of a history fetch, and the turns of these fetches
abbrev pub turns_in : List Task → List (List Event) → List Event → List Valued
turns_in tasks histories [] = []
turns_in tasks histories (event ∷ behind) = turn_at tasks histories (tag_of event) ++ turns_in tasks histories behind

-- What the workers of a replay did fits the histories of its parts.
-- joined: who joined a fetch had another worker's fetch of that question to join
-- turns: in every part the fetches of a question stand one behind the other, never mixed, and in the same order in all parts
pub record FitsHistories (lines workers : ℕ) (tasks : List Task) (histories events : List (List Event)) : Type 0 where
  pub ordered : AreInOrder lines workers tasks histories events
  pub joined : All (λ task. IsJoinedTo tasks task.worker task.fate) tasks
  pub turns : All (λ history. NeverFalls (turns_in tasks histories history)) histories

-- the same with a table of the lines' owners, which the clauses of a private function alone cite
pub record AreWritten (workers : ℕ) (owners : List ℕ) (tasks : List Task) (histories events : List (List Event)) : Type 0 where
  pub named : All (λ history. AreNamed (length owners) history) histories
  pub calls : AllZip IsTaskOf tasks events
  pub in_order : (worker part : ℕ) → worker < workers → part < length histories
      → events_of worker owners (slice_index_or histories part []) ≡ written_by worker part tasks events

-- the histories of parts
abbrev pub histories_of : List Whole → List (List Event)
histories_of wholes = map (λ whole. whole.events) wholes
