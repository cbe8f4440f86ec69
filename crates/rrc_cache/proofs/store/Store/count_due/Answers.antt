-- SPDX-License-Identifier: MIT
use Rattle.rrc_cache.proofs.Stored.{same_store}
use Rattle.rrc_cache.proofs.store.Store.count_due.Goals as goal

pub invariant_of-self : goal.invariant_of-self
invariant_of-self c = same_store c.self.inside.stale c.self.inside.filtered.entries c.self.inside.queue c.sort_due.new.self c.sort_due.ensures c.self.invariant
