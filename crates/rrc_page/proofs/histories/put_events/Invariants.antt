-- SPDX-License-Identifier: MIT
-- what some events say was put, and what the others say is left
use Rattle.std.proofs.Common.{◌≡◌, ◌++◌, drop}
use Rattle.std.specs.List.{flat_map}
use Rattle.rrc_page.specs.Texts.{event_line}
use Rattle.rrc_page.proofs.histories.put_events.Given as goal

abbrev pub invariant-loop-event : goal.invariant-loop-event
invariant-loop-event l = l.text.items ++ flat_map event_line (drop l.event-index l.events) ≡ l.initial.text.items ++ flat_map event_line l.events
