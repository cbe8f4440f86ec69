-- SPDX-License-Identifier: MIT
-- in the parts so far they rise
use Rattle.std.proofs.Common.{take}
use Rattle.std.specs.List.{All}
use Rattle.rrc_collate.specs.Words.{NeverFalls}
use Rattle.rrc_collate.specs.Turns.{turns_told}
use Rattle.rrc_collate.proofs.turns.all_rise.Given as goal

abbrev pub invariant-loop-whole : goal.invariant-loop-whole
invariant-loop-whole l = All (λ whole. NeverFalls (turns_told l.fates l.turns whole.events)) (take l.whole-index l.wholes)
