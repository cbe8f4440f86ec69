-- SPDX-License-Identifier: MIT
-- the lowest life so far, which is not above the cap
use Rattle.std.proofs.Common.{◌≡◌, ◌≤◌, take}
use Rattle.rrc_sets.specs.Life.{lowest_life}
use Rattle.rrc_sets.proofs.times.lowest_life.Given as goal

abbrev pub invariant-loop-ttl : goal.invariant-loop-ttl
invariant-loop-ttl l = record {
  value : l.lowest ≡ lowest_life l.limits (take l.ttl-index l.ttls);
  capped : l.lowest ≤ l.limits.cap;
}
