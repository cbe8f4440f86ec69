-- SPDX-License-Identifier: MIT
use Rattle.rrc_marks.specs.Seen.{KeepsShare}
use Rattle.rrc_replay_tests.proofs.marks.threads.draw_none.Given as goal

abbrev pub invariant-loop-rt : goal.invariant-loop-rt
invariant-loop-rt g l = KeepsShare l.initial.pass l.pass

abbrev pub decreases-loop-rt : goal.decreases-loop-rt
decreases-loop-rt g l = l.pass.view.turns
