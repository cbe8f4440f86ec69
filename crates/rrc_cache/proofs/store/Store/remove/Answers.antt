-- SPDX-License-Identifier: MIT
use Rattle.std.proofs.Common.{None, sym, subst}
use Rattle.rrc_name.specs.KeyRef.{key_of}
use Rattle.rrc_history.specs.Entries.{goes, staying}
use Rattle.rrc_cache.specs.ExpiryQueue.{AreQueued}
use Rattle.rrc_cache.specs.Pairs.{EntriesOf}
use Rattle.rrc_cache.proofs.Paired.{edited_store}
use Rattle.rrc_cache.proofs.Timed.{removed_queued}
use Rattle.rrc_cache.proofs.store.Store.remove.Goals as goal

pub invariant_of-self : goal.invariant_of-self
invariant_of-self c = record {
  limit = c.self.invariant.limit;
  queued = subst (λ (map : EntriesOf). AreQueued c.self.inside.stale map.entries c.self.inside.queue) (sym c.remove.ensures)
      (removed_queued c.self.inside.stale c.self.inside.filtered.entries c.self.inside.queue c.self.invariant.queued (key_of c.args.key));
}

pub returns : goal.returns
returns c = edited_store (staying (goes (key_of c.args.key) None)) c.self.inside.stale c.self.inside.filtered c.remove.new.self c.args.self.now c.remove.ensures c.self.view_is
