-- SPDX-License-Identifier: MIT
use Rattle.std.proofs.Common.{◌≡◌, length}
use Rattle.rrc_wire.specs.Chain.{AreEnds}
use Rattle.rrc_wire.proofs.source.ends_of.Given as goal

abbrev pub invariant-loop-place : goal.invariant-loop-place
invariant-loop-place l = record { many : length l.ends.items ≡ l.place; are_ends : AreEnds l.message l.ends.items }
