-- SPDX-License-Identifier: MIT
use Rattle.std.proofs.Common.{length}
use Rattle.rrc_name.proofs.WireReading.{IsRead}
use Rattle.rrc_name.proofs.wire.test_wire_form.Given as goal

abbrev pub invariant-loop-rest : goal.invariant-loop-rest
invariant-loop-rest l = IsRead l.octets l.rest

abbrev pub decreases-loop-rest : goal.decreases-loop-rest
decreases-loop-rest l = length l.rest
