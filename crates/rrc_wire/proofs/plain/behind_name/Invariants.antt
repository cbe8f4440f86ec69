-- SPDX-License-Identifier: MIT
use Rattle.std.proofs.Common.{length}
use Rattle.rrc_wire.proofs.FrontNames.{Leaves}
use Rattle.rrc_wire.proofs.plain.behind_name.Given as goal

abbrev pub invariant-loop-first : goal.invariant-loop-first
invariant-loop-first l = Leaves l.octets l.room l.rest

abbrev pub decreases-loop-first : goal.decreases-loop-first
decreases-loop-first l = length l.rest
