-- SPDX-License-Identifier: MIT
use Rattle.std.proofs.Common.{◌≡◌, take}
use Rattle.std.specs.Prelude.{reverse}
use Rattle.rrc_history.specs.Past.{touch}
use Rattle.rrc_history.proofs.past.touch.Given as goal

abbrev pub invariant-loop-place : goal.invariant-loop-place
invariant-loop-place l = l.touch ≡ touch l.snapshot (reverse (take l.place l.past)) l.key
