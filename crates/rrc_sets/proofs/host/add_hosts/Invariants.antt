-- SPDX-License-Identifier: MIT
-- the hosts of the data so far, each once, while they are not too many
use Rattle.std.proofs.Common.{◌≡◌, ◌++◌, take, drop, map}
use Rattle.rrc_name.specs.Wire.{same_name}
use Rattle.rrc_sets.specs.Uniques.{uniques}
use Rattle.rrc_sets.proofs.host.add_hosts.Given as goal

abbrev pub invariant-loop-item : goal.invariant-loop-item
invariant-loop-item l = l.hosts.items ≡ take l.most (uniques same_name (l.initial.hosts.items ++ map (drop l.place) (take l.item-index l.items)))
