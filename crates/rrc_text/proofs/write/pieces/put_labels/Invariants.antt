-- SPDX-License-Identifier: MIT
-- the labels so far were put, and those of the name behind them are left
use Rattle.std.proofs.Common.{length}
use Rattle.rrc_name.specs.Text.{dotted}
use Rattle.rrc_name.specs.Wire.{labels_of, IsWireForm}
use Rattle.rrc_text.proofs.OutputLemmas.{Leaves}
use Rattle.rrc_text.proofs.write.pieces.put_labels.Given as goal

abbrev pub invariant-loop-label : goal.invariant-loop-label
invariant-loop-label g l =
    IsWireForm l.rest × Leaves g.W.Write.contents l.initial.output l.output (dotted (labels_of l.wire)) (dotted (labels_of l.rest))

abbrev pub decreases-loop-label : goal.decreases-loop-label
decreases-loop-label g l = length l.rest
