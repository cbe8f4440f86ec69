-- SPDX-License-Identifier: MIT
-- what is left of the name is printed behind what was printed
use Rattle.std.proofs.Common.{◌≡◌, ◌++◌, string_bytes, length}
use Rattle.rrc_name.specs.Text.{dotted}
use Rattle.rrc_name.specs.Wire.{labels_of, IsWireForm}
use Rattle.rrc_name.proofs.printed.labels_in.Given as goal

abbrev pub invariant-loop-label : goal.invariant-loop-label
invariant-loop-label l =
    record { is_name : IsWireForm l.rest; printed : string_bytes l.text ++ dotted (labels_of l.rest) ≡ dotted (labels_of l.wire) }

abbrev pub decreases-loop-label : goal.decreases-loop-label
decreases-loop-label l = length l.rest
