-- SPDX-License-Identifier: MIT
use Rattle.std.proofs.Common.{arith, rules}
use Rattle.std.proofs.lemmas.Grind.{common_steps}
use Rattle.rrc_trace.proofs.read.trace.move_part.Goals as goal

pub returns : goal.returns
returns c = record {
  part = c.cut-ended.result.0.now;
  taken = grind (arith, common_steps) steps 400000;
  moved = search rules fits 100;
  some = search rules fits 100;
  few = search rules fits 100;
  cut = c.cut-ended.ensures.cut;
}
