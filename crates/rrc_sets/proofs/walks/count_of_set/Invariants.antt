-- SPDX-License-Identifier: MIT
-- those of the records so far
use Rattle.std.proofs.Common.{◌≡◌, take, count_by}
use Rattle.rrc_sets.specs.Sets.{same_set}
use Rattle.rrc_sets.proofs.walks.count_of_set.Given as goal

abbrev pub invariant-loop-other : goal.invariant-loop-other
invariant-loop-other l = l.count ≡ count_by (same_set l.rr) (take l.other-index l.records)
