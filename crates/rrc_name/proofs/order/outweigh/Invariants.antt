-- SPDX-License-Identifier: MIT
use Rattle.std.proofs.Common.{◌≡◌, length}
use Rattle.rrc_name.specs.Wire.{labels_of, IsWireForm}
use Rattle.rrc_name.specs.Order.{outweighed}
use Rattle.rrc_name.proofs.order.outweigh.Given as goal

abbrev pub invariant-loop-label : goal.invariant-loop-label
invariant-loop-label l =
    record {
      a_name : IsWireForm l.a;
      b_name : IsWireForm l.b;
      kept : outweighed l.order (labels_of l.a) (labels_of l.b) ≡ outweighed l.initial.order (labels_of l.initial.a) (labels_of l.initial.b);
    }

abbrev pub decreases-loop-label : goal.decreases-loop-label
decreases-loop-label l = length l.a
