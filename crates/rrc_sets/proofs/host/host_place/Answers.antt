-- SPDX-License-Identifier: MIT
use Rattle.std.proofs.Common.{rules}
use Rattle.rrc_sets.proofs.host.host_place.Goals as goal

pub returns-then-is_set_of-2 : goal.returns-then-is_set_of-2
returns-then-is_set_of-2 c = search rules fits 100
