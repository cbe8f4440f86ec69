-- SPDX-License-Identifier: MIT
-- what was found so far
use Rattle.std.proofs.Common.{◌≡◌, take, map, Some}
use Rattle.rrc_collate.proofs.owners.all_of.Given as goal

abbrev pub invariant-loop-one : goal.invariant-loop-one
invariant-loop-one l = map Some l.values.items ≡ take l.one-index l.found
