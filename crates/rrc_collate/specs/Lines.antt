-- SPDX-License-Identifier: MIT
-- What the parts have of each line, where their histories are what the workers wrote.
use Rattle.std.specs.Prelude.{◌≡◌, ◌<◌, ℕ, ◌==◌, List, [], length, filter, slice_index_or, Bool}
use Rattle.rrc_history.specs.declared.event.Event.{Event}
use Rattle.rrc_collate.specs.declared.task.Task.{Task}
use Rattle.rrc_collate.specs.Calls.{tag_of, going_to}
use Rattle.rrc_collate.specs.Collated.{AreInOrder}

-- the event is of a line
abbrev pub is_of_line : ℕ → Event → Bool
is_of_line line event = (tag_of event).line == line

-- what a part has of the line of a task is what goes there of the task's operations: one event each, in order of place, and no other
abbrev pub EachLineStands : Type 0
EachLineStands =
    (lines workers : ℕ) (tasks : List Task) (histories events : List (List Event)) (place part : ℕ) (task : Task)
    → AreInOrder lines workers tasks histories events → place < length tasks → slice_index_or tasks place task ≡ task → task.worker < workers → part < length histories
    → filter (is_of_line task.line) (slice_index_or histories part []) ≡ going_to part task.operations (slice_index_or events place [])
