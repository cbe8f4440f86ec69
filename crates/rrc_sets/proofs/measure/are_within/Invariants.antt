-- SPDX-License-Identifier: MIT
-- the octets of the data so far
use Rattle.std.proofs.Common.{◌≡◌, ◌≤◌, length, take}
use Rattle.std.specs.List.{sum_by}
use Rattle.rrc_sets.proofs.measure.are_within.Given as goal

abbrev pub invariant-loop-item : goal.invariant-loop-item
invariant-loop-item l = (l.octets ≡ sum_by length (take l.item-index l.items)) × (l.octets ≤ l.most)
