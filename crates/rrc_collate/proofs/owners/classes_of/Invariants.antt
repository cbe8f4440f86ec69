-- SPDX-License-Identifier: MIT
-- the values so far are apart, and the table has their classes
use Rattle.std.proofs.Common.{take}
use Rattle.rrc_collate.specs.Words.{AreApart, AreClasses}
use Rattle.rrc_collate.proofs.owners.classes_of.Given as goal

abbrev pub invariant-loop-valued : goal.invariant-loop-valued
invariant-loop-valued l = record {
  apart : AreApart l.count (take l.valued-index l.taken);
  classes : AreClasses l.count (take l.valued-index l.taken) l.classes.items;
}
