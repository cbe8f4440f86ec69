-- SPDX-License-Identifier: MIT
-- the sets of the records so far
use Rattle.std.proofs.Common.{◌≡◌, take}
use Rattle.rrc_sets.specs.Sets.{sets_of}
use Rattle.rrc_sets.proofs.walks.sets_by_walks.Given as goal

abbrev pub invariant-loop-rr : goal.invariant-loop-rr
invariant-loop-rr l = l.sets.items ≡ sets_of (take l.rr-index l.records)
