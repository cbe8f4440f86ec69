-- SPDX-License-Identifier: MIT
-- the octets so far were put as they are spelled, and the others are left
use Rattle.std.proofs.Common.{drop}
use Rattle.std.specs.List.{flat_map}
use Rattle.rrc_name.specs.Text.{spelling_of}
use Rattle.rrc_text.proofs.OutputLemmas.{Leaves}
use Rattle.rrc_text.proofs.write.pieces.put_each.Given as goal

abbrev pub invariant-loop-octet : goal.invariant-loop-octet
invariant-loop-octet g l =
    Leaves g.W.Write.contents l.initial.output l.output (flat_map spelling_of l.label) (flat_map spelling_of (drop l.octet-index l.label))
