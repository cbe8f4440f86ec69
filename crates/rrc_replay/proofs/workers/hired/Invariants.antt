-- SPDX-License-Identifier: MIT
use Rattle.std.proofs.Common.{◌≡◌, ◌+◌, ◌-◌, ◌*◌, []}
use Rattle.rrc_marks.specs.Seen.{IsPassOf}
use Rattle.rrc_replay.proofs.workers.hired.Given as goal

-- the pass is of the table, drew nothing, and has the turns of the workers that are left and of one more
abbrev pub invariant-loop : goal.invariant-loop
invariant-loop g l =
    IsPassOf l.common.marks.now l.pass × (l.pass.view.drawn ≡ []) × (l.pass.view.turns ≡ (l.common.config.now.workers + 1 - l.counter) * l.turns)
