-- SPDX-License-Identifier: MIT
-- the expiries so far are those of the entries so far
use Rattle.std.proofs.Common.{◌≡◌, map}
use Rattle.std.specs.Map.Iter.{deref_pair}
use Rattle.rrc_cache.specs.ExpiryQueue.{expiries_of}
use Rattle.rrc_cache.specs.Keyed.{hashed_entries}
use Rattle.rrc_cache.proofs.expiries.expiries_of.Given as goal

abbrev pub invariant-loop-stamped : goal.invariant-loop-stamped
invariant-loop-stamped l = l.expiries.items ≡ expiries_of l.stale (hashed_entries (map deref_pair l.yielded))
