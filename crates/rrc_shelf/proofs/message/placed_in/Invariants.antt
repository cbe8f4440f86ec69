-- SPDX-License-Identifier: MIT
-- each offer so far stands beside its part
use Rattle.std.proofs.Common.{◌≡◌, map}
use Rattle.rrc_shelf.specs.Readings.{placed_in}
use Rattle.rrc_shelf.proofs.message.placed_in.Given as goal

abbrev pub invariant-loop-offer : goal.invariant-loop-offer
invariant-loop-offer l = l.placed.items ≡ map (placed_in l.division) l.yielded
