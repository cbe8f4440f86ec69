-- SPDX-License-Identifier: MIT
-- the events so far name lines, and are dealt
use Rattle.std.proofs.Common.{take, length}
use Rattle.rrc_collate.specs.Hands.{AreNamed, AreDealt}
use Rattle.rrc_collate.proofs.hands.deal.Given as goal

abbrev pub invariant-loop-event : goal.invariant-loop-event
invariant-loop-event l = record {
  named : AreNamed (length l.owners) (take l.event-index l.events);
  dealt : AreDealt l.workers l.owners (take l.event-index l.events) l.hands;
}
