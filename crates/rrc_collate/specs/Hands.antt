-- SPDX-License-Identifier: MIT
-- The events of a part, as the workers that took their lines have them.
use Rattle.std.specs.Prelude.{◌≡◌, ◌<◌, ℕ, ◌==◌, List, [], length, filter, slice_get, slice_index_or, Bool, false, Option, Some, None}
use Rattle.std.specs.List.{All}
use Rattle.rrc_history.specs.declared.event.Event.{Event}
use Rattle.rrc_collate.specs.Calls.{tag_of}

-- each event names a line below a count
abbrev pub AreNamed : ℕ → List Event → Type 0
AreNamed lines events = All (λ event. (tag_of event).line < lines) events

-- a line that has this owner, if it has one, is a worker's
abbrev pub is_of : ℕ → Option ℕ → Bool
is_of worker None = false
is_of worker (Some owner) = owner == worker

-- the events of a worker's lines, in order
abbrev pub events_of : ℕ → List ℕ → List Event → List Event
events_of worker owners events = filter (λ event. is_of worker (slice_get owners (tag_of event).line)) events

-- each worker has the events of its lines
pub record AreDealt (workers : ℕ) (owners : List ℕ) (events : List Event) (hands : List (List Event)) : Type 0 where
  pub size : length hands ≡ workers
  pub each : (worker : ℕ) → worker < workers → slice_index_or hands worker [] ≡ events_of worker owners events
