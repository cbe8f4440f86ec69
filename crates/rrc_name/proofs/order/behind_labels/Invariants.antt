-- SPDX-License-Identifier: MIT
use Rattle.std.proofs.Common.{◌≡◌, drop}
use Rattle.rrc_name.specs.Wire.{labels_of, IsWireForm}
use Rattle.rrc_name.proofs.order.behind_labels.Given as goal

abbrev pub invariant-loop-passed : goal.invariant-loop-passed
invariant-loop-passed l = record { is_name : IsWireForm l.rest; labels : labels_of l.rest ≡ drop l._passed (labels_of l.name) }
