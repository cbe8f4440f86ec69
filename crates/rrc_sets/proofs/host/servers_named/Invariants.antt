-- SPDX-License-Identifier: MIT
-- the hosts of the NS RRsets so far, each once, while they are not too many
use Rattle.std.proofs.Common.{◌≡◌, take}
use Rattle.std.specs.Prelude.{filter}
use Rattle.std.specs.List.{flat_map}
use Rattle.rrc_name.specs.Wire.{same_name}
use Rattle.rrc_sets.specs.Relevant.{is_set_of, hosts_of}
use Rattle.rrc_sets.specs.Uniques.{uniques}
use Rattle.rrc_sets.proofs.host.servers_named.Given as goal

abbrev pub invariant-loop-offer : goal.invariant-loop-offer
invariant-loop-offer l = l.hosts.items ≡ take l.most (uniques same_name (flat_map hosts_of (filter (is_set_of 2) (take l.offer-index l.offers))))
