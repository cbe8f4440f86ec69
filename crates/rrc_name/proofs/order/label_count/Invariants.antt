-- SPDX-License-Identifier: MIT
use Rattle.std.proofs.Common.{◌≡◌, ◌+◌, length}
use Rattle.rrc_name.specs.Wire.{labels_of, IsWireForm}
use Rattle.rrc_name.proofs.order.label_count.Given as goal

abbrev pub invariant-loop-behind : goal.invariant-loop-behind
invariant-loop-behind l = record { is_name : IsWireForm l.rest; counted : l.count + length (labels_of l.rest) ≡ length (labels_of l.name) }

abbrev pub decreases-loop-behind : goal.decreases-loop-behind
decreases-loop-behind l = length l.rest
