-- SPDX-License-Identifier: MIT
-- each label that was passed took at most 64 octets of room
use Rattle.std.proofs.Common.{◌+◌, ◌*◌, ◌≤◌}
use Rattle.rrc_wire.proofs.name.room_for_name.Given as goal

abbrev pub invariant-loop-label : goal.invariant-loop-label
invariant-loop-label l = l.room ≤ 64 * l._label + 1
