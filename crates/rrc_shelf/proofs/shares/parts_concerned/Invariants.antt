-- SPDX-License-Identifier: MIT
-- the bits of the parts so far
use Rattle.std.proofs.Common.{◌≡◌, ◌<◌, ◌^◌}
use Rattle.rrc_shelf.specs.Readings.{parts_below}
use Rattle.rrc_shelf.proofs.shares.parts_concerned.Given as goal

abbrev pub invariant-loop-part : goal.invariant-loop-part
invariant-loop-part l = (l.bits ≡ parts_below l.placed l.part) × (l.bits < 2 ^ l.part)
