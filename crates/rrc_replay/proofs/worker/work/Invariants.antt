-- SPDX-License-Identifier: MIT
use Rattle.std.proofs.Common.{◌≡◌, []}
use Rattle.rrc_marks.specs.Seen.{IsPassOf}
use Rattle.rrc_replay.proofs.worker.work.Given as goal

-- the pass is of the table, and holds no mark
abbrev pub invariant-loop-common : goal.invariant-loop-common
invariant-loop-common g l = IsPassOf l.common.marks.now l.pass × (l.pass.view.held ≡ [])

-- a line takes a turn
abbrev pub decreases-loop-common : goal.decreases-loop-common
decreases-loop-common g l = l.pass.view.turns
