-- SPDX-License-Identifier: MIT
use Rattle.std.proofs.Common.{◌-◌}
use Rattle.rrc_wire.proofs.FrontNames.{LeavesNames}
use Rattle.rrc_wire.proofs.plain.behind_names.Given as goal

abbrev pub invariant-loop : goal.invariant-loop
invariant-loop l = LeavesNames l.octets l.names (l.names - l.counter) l.rest
