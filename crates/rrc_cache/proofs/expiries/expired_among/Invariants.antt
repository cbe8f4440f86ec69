-- SPDX-License-Identifier: MIT
-- the keys so far are those of the expiries so far
use Rattle.std.proofs.Common.{◌≡◌, take}
use Rattle.rrc_cache.specs.ExpiryQueue.{expired_among}
use Rattle.rrc_cache.proofs.expiries.expired_among.Given as goal

abbrev pub invariant-loop-expiry : goal.invariant-loop-expiry
invariant-loop-expiry l = l.keys.items ≡ expired_among l.stale l.moment l.map.entries (take l.expiry-index l.expiries)
