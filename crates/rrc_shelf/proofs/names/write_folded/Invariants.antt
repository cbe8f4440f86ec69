-- SPDX-License-Identifier: MIT
-- the octets so far are written, folded, and the name is still none
use Rattle.std.proofs.Common.{◌≡◌, drop, take}
use Rattle.rrc_name.specs.Wire.{folded}
use Rattle.rrc_shelf.proofs.names.write_folded.Given as goal

abbrev pub invariant-loop-at : goal.invariant-loop-at
invariant-loop-at l = record {
  none : l.made.size ≡ 0;
  octets : take l.at l.made.octets ≡ folded (take l.at l.wire);
  behind : drop l.at l.made.octets ≡ drop l.at l.initial.made.octets;
}
