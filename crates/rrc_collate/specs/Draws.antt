-- SPDX-License-Identifier: MIT
-- What the operations of a line take from the hands of its worker.
use Rattle.std.specs.Prelude.{◌≡◌, ◌≢◌, ℕ, List, [], ◌++◌, length, slice_get, slice_index_or, Some}
use Rattle.rrc_history.specs.declared.event.Event.{Event}
use Rattle.rrc_history.specs.declared.event.Tag.{Tag}
use Rattle.rrc_collate.specs.declared.script.Call.{Call}
use Rattle.rrc_collate.specs.declared.script.Operation.{Operation}
use Rattle.rrc_collate.specs.Calls.{tag_of, call_of, AreCalls, going_to}

-- the event is of a call that stands there in the trace
abbrev pub IsNext : Tag → Call → Event → Type 0
IsNext tag call event = (tag_of event ≡ tag) × (call_of event ≡ call)

-- the event is the first of a hand, and of that call
abbrev pub IsFirst : Tag → Call → Event → List Event → Type 0
IsFirst tag call event hand = IsNext tag call event × (slice_get hand 0 ≡ Some event)

-- no event of that call is the first of a hand
abbrev pub HasNoFirst : Tag → Call → List Event → Type 0
HasNoFirst tag call hand = (event : Event) → IsFirst tag call event hand → ⊥

-- what a worker has in a part
abbrev pub hand_of : List (List (List Event)) → ℕ → ℕ → List Event
hand_of parts part worker = slice_index_or (slice_index_or parts part []) worker []

-- events are of a line's operations, each the next of its worker in its part
pub record Fits (parts : List (List (List Event))) (worker line place : ℕ) (script : List Operation) (events : List Event) (left : ℕ → List Event) : Type 0 where
  pub calls : AreCalls line place script events
  pub own : (part : ℕ) → hand_of parts part worker ≡ going_to part script events ++ left part

-- events are those of a line's operations, and were taken from its worker's hands; all else is as it was
pub record IsDrawn (parts : List (List (List Event))) (worker line : ℕ) (script : List Operation) (events : List Event) (left : List (List (List Event))) : Type 0 where
  pub fits : Fits parts worker line 0 script events (λ part. hand_of left part worker)
  pub others : (part other : ℕ) → other ≢ worker → hand_of left part other ≡ hand_of parts part other
  pub parts_stay : length left ≡ length parts
  pub workers_stay : (part : ℕ) → length (slice_index_or left part []) ≡ length (slice_index_or parts part [])

-- no events fit a line's operations, whatever is left
abbrev pub CanNotDraw : List (List (List Event)) → ℕ → ℕ → List Operation → Type 0
CanNotDraw parts worker line script = (events : List Event) (left : ℕ → List Event) → Fits parts worker line 0 script events left → ⊥

-- no other events fit a line's operations, and what fits them leaves what is left
abbrev pub IsOnlyDraw : List (List (List Event)) → ℕ → ℕ → List Operation → List Event → List (List (List Event)) → Type 0
IsOnlyDraw parts worker line script drawn left =
    (events : List Event) (behind : ℕ → List Event) → Fits parts worker line 0 script events behind
    → (events ≡ drawn) × ((part : ℕ) → hand_of left part worker ≡ behind part)
