-- SPDX-License-Identifier: MIT
use Rattle.std.proofs.Common.{◌≡◌, map, take}
use Rattle.rrc_history.specs.Images.{image_of_event}
use Rattle.rrc_history.proofs.images.events_from_classless.Given as goal

abbrev pub invariant-loop-event : goal.invariant-loop-event
invariant-loop-event l = l.made.items ≡ map image_of_event (take l.event-index l.events)
