-- SPDX-License-Identifier: MIT
use Rattle.std.proofs.Common.{◌≡◌, List, ap, ◌∙◌}
use Rattle.std.specs.List.{list_any}
use Rattle.rrc_history.specs.declared.snapshot.Entry.{Entry}
use Rattle.rrc_cache.specs.declared.expiry_queue.Expiry.{Expiry}
use Rattle.rrc_cache.specs.ExpiryQueue.{expiries_of, is_by}
use Rattle.rrc_cache.specs.Keyed.{hashed_entries}
use Rattle.rrc_cache.specs.Pairs.{EntriesOf}
use Rattle.rrc_cache.proofs.Stored.{queued_store}
use Rattle.rrc_cache.proofs.Timed.{all_queued}
use Rattle.rrc_cache.proofs.store.Store.rebuild_long_queue.Goals as goal

pub invariant_of-self : goal.invariant_of-self
invariant_of-self c =
    let entries : List Entry = c.self.inside.filtered.entries in
    let held : hashed_entries c.held.result.now.entries ≡ entries = c.held.ensures ∙ ap (λ (map : EntriesOf). map.entries) c.map-map.ensures in
    queued_store c.self.inside.stale entries c.self.inside.queue c.of.result c.self.invariant
    (all_queued c.self.inside.stale entries c.of.result
    (λ key time. c.of.ensures.expiries key time ∙ (ap (λ (expiries : List Expiry). list_any (is_by key time) expiries) c.in-Ok.ensures
    ∙ ap (λ (es : List Entry). list_any (is_by key time) (expiries_of c.self.inside.stale es)) held)))
