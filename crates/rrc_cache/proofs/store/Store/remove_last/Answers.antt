-- SPDX-License-Identifier: MIT
use Rattle.std.proofs.Common.{◌-◌, List, length, take, ap, sym, subst, ◌∙◌}
use Rattle.rrc_history.specs.declared.snapshot.Entry.{Entry}
use Rattle.rrc_history.specs.Entries.{AreApart}
use Rattle.rrc_history.specs.Past.{last_key}
use Rattle.rrc_cache.specs.ExpiryQueue.{AreQueued}
use Rattle.rrc_cache.specs.Pairs.{EntriesOf, StoreOf}
use Rattle.rrc_cache.proofs.Paired.{edited_store}
use Rattle.rrc_cache.proofs.Last.{last_queued}
use Rattle.rrc_cache.proofs.store.Store.remove_last.Goals as goal

pub invariant_of-self : goal.invariant_of-self
invariant_of-self c =
    let entries : List Entry = c.self.inside.filtered.entries in
    let apart : AreApart entries = subst (λ (map : EntriesOf). AreApart map.entries) c.map.ensures c.has_distinct_keys.ensures in
    record {
      limit = c.self.invariant.limit;
      queued = subst (λ (map : EntriesOf). AreQueued c.self.inside.stale map.entries c.self.inside.queue) (sym c.remove_last.ensures.entries)
          (last_queued c.self.inside.stale entries c.self.inside.queue apart c.self.invariant.queued);
    }

pub returns-clause-value : goal.returns-clause-value
returns-clause-value c = c.remove_last.ensures.value ∙ ap (λ (store : StoreOf). last_key store.entries) c.self.view_is

pub returns-clause-entries : goal.returns-clause-entries
returns-clause-entries c =
    edited_store (λ entries. take (length entries - 1) entries) c.self.inside.stale c.self.inside.filtered c.remove_last.new.self c.args.self.now c.remove_last.ensures.entries c.self.view_is
