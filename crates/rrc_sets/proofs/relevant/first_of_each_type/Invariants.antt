-- SPDX-License-Identifier: MIT
-- the first of each type of the offers so far
use Rattle.std.proofs.Common.{◌≡◌}
use Rattle.rrc_sets.specs.Uniques.{uniques}
use Rattle.rrc_sets.specs.Relevant.{same_type}
use Rattle.rrc_sets.proofs.relevant.first_of_each_type.Given as goal

abbrev pub invariant-loop-offer : goal.invariant-loop-offer
invariant-loop-offer l = l.firsts.items ≡ uniques same_type l.yielded
