-- SPDX-License-Identifier: MIT
-- what the events so far fetch
use Rattle.std.proofs.Common.{◌≡◌, take}
use Rattle.rrc_collate.specs.Turns.{turns_told}
use Rattle.rrc_collate.proofs.turns.turns_of.Given as goal

abbrev pub invariant-loop-event : goal.invariant-loop-event
invariant-loop-event l = l.found.items ≡ turns_told l.fates l.turns (take l.event-index l.events)
