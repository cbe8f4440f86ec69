-- SPDX-License-Identifier: MIT
use Rattle.std.proofs.Common.{rules}
use Rattle.rrc_sets.proofs.measure.length_of.Goals as goal

pub returns-then-is_set_of : goal.returns-then-is_set_of
returns-then-is_set_of c = search rules fits 100
