-- SPDX-License-Identifier: MIT
use Rattle.std.proofs.Common.{◌≡◌, drop}
use Rattle.rrc_replay.specs.Stops.{lower, lowest}
use Rattle.rrc_replay.proofs.workers.first_fault.Given as goal

-- the lowest stop so far and those of the others give that of all
abbrev pub invariant-loop-one : goal.invariant-loop-one
invariant-loop-one l = lower l.first (lowest (drop l.one-index l.worked)) ≡ lowest l.worked
