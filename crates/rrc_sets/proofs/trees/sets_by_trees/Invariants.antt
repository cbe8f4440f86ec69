-- SPDX-License-Identifier: MIT
-- the sets of the records so far
use Rattle.std.proofs.Common.{◌≡◌, take}
use Rattle.rrc_sets.specs.Sets.{sets_of}
use Rattle.rrc_sets.proofs.trees.sets_by_trees.Given as goal

abbrev pub invariant-loop-rr : goal.invariant-loop-rr
invariant-loop-rr l = l.gathered ≡ sets_of (take l.rr-index l.records)
