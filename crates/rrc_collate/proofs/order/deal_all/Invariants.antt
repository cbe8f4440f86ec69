-- SPDX-License-Identifier: MIT
-- the parts so far are dealt
use Rattle.std.proofs.Common.{take, length}
use Rattle.std.specs.List.{All, AllZip}
use Rattle.rrc_collate.specs.Hands.{AreNamed, AreDealt}
use Rattle.rrc_collate.proofs.order.deal_all.Given as goal

abbrev pub invariant-loop-whole : goal.invariant-loop-whole
invariant-loop-whole l = record {
  named : All (λ whole. AreNamed (length l.owners) whole.events) (take l.whole-index l.wholes);
  dealt : AllZip (λ whole hands. AreDealt l.workers l.owners whole.events hands) (take l.whole-index l.wholes) l.parts.items;
}
