-- SPDX-License-Identifier: MIT
use Rattle.rrc_marks.specs.Seen.{KeepsShare}
use Rattle.bench.proofs.marks.work.draw_all.Given as goal

abbrev pub invariant-loop-pass : goal.invariant-loop-pass
invariant-loop-pass l = KeepsShare l.initial.pass l.pass

abbrev pub decreases-loop-pass : goal.decreases-loop-pass
decreases-loop-pass l = l.pass.view.turns
