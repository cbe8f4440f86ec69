-- SPDX-License-Identifier: MIT
-- the octets so far, with those of the entries to come, are those of all
use Rattle.std.proofs.Common.{◌≡◌, ◌+◌, ◌^◌, ◌%◌}
use Rattle.rrc_history.specs.Octets.{octets_of}
use Rattle.rrc_cache.specs.Keyed.{hashed_entries}
use Rattle.rrc_cache.proofs.octet_count.of_all.Given as goal

abbrev pub invariant-loop-stamped : goal.invariant-loop-stamped
invariant-loop-stamped l = octets_of (hashed_entries l.cache.entries) % 2 ^ 64 ≡ (l.octets + octets_of (hashed_entries l.stamped-iterator)) % 2 ^ 64
