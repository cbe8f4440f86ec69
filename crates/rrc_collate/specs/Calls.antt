-- SPDX-License-Identifier: MIT
-- Calls on the parts of a cache: those that events are of, and those that the operations of a line make.
use Rattle.std.specs.Prelude.{◌≡◌, ℕ, ◌+◌, ◌==◌, List, [], ◌∷◌, if◌then◌else◌}
use Rattle.rrc_history.specs.declared.event.Event.{Event}
use Rattle.rrc_history.specs.declared.event.Event.TheVariants.{Offered, Asked, Swept}
use Rattle.rrc_history.specs.declared.event.Tag.{Tag}
use Rattle.rrc_collate.specs.declared.script.Call.{Call}
use Rattle.rrc_collate.specs.declared.script.Call.TheVariants.{Offer, Ask, Sweep}
use Rattle.rrc_collate.specs.declared.script.Operation.{Operation}

-- the call that an event is of
abbrev pub call_of : Event → Call
call_of (Offered outcome tag offer evicted) = Offer offer
call_of (Asked tag ask reply) = Ask ask
call_of (Swept tag moment gone) = Sweep moment

-- where the call of an event stands in a trace
abbrev pub tag_of : Event → Tag
tag_of (Offered outcome tag offer evicted) = tag
tag_of (Asked tag ask reply) = tag
tag_of (Swept tag moment gone) = tag

-- events are of the calls of a line's operations, the first of which has this place: one event for each, in order
abbrev pub AreCalls : ℕ → ℕ → List Operation → List Event → Type 0
AreCalls line place [] [] = Unit {0}
AreCalls line place (operation ∷ operations) (event ∷ events) =
    (tag_of event ≡ record { line = line; place = place }) × (call_of event ≡ operation.call) × AreCalls line (place + 1) operations events
AreCalls line place operations events = ⊥

-- those of a line's events whose operations go to a part
abbrev pub going_to : ℕ → List Operation → List Event → List Event
going_to part [] events = []
going_to part (operation ∷ operations) [] = []
going_to part (operation ∷ operations) (event ∷ events) =
    if operation.part == part then event ∷ going_to part operations events else going_to part operations events
