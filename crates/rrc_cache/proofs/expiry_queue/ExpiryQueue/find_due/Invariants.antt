-- SPDX-License-Identifier: MIT
-- no expiry has gone, and those that wait grow fewer
use Rattle.std.proofs.Common.{◌≡◌, length}
use Rattle.rrc_cache.specs.ExpiryQueue.{HasSameExpiries}
use Rattle.rrc_cache.proofs.expiry_queue.ExpiryQueue.find_due.Given as goal

abbrev pub invariant-loop-self : goal.invariant-loop-self
invariant-loop-self l = HasSameExpiries l.self l.initial.self × (l.self.kept ≡ l.initial.self.kept)

abbrev pub decreases-loop-self : goal.decreases-loop-self
decreases-loop-self l = length l.self.waiting
