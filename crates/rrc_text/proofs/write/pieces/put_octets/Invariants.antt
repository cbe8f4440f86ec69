-- SPDX-License-Identifier: MIT
-- the octets so far were put in hexadecimal, and the rest is left
use Rattle.std.proofs.Common.{length}
use Rattle.hex.specs.Hex.{encode_lower}
use Rattle.rrc_text.proofs.OutputLemmas.{Leaves}
use Rattle.rrc_text.proofs.write.pieces.put_octets.Given as goal

abbrev pub invariant-loop-rest : goal.invariant-loop-rest
invariant-loop-rest g l = Leaves g.W.Write.contents l.initial.output l.output (encode_lower l.octets) (encode_lower l.rest)

abbrev pub decreases-loop-rest : goal.decreases-loop-rest
decreases-loop-rest g l = length l.rest
