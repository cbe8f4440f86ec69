-- SPDX-License-Identifier: MIT
use Rattle.std.proofs.Common.{◌≡◌, ℕ, List, ap, sym, subst, ◌∙◌}
use Rattle.std.proofs.lemmas.Result.{IfOk-weaker}
use Rattle.rrc_name.specs.Key.{KeyOf}
use Rattle.rrc_history.specs.declared.snapshot.Entry.{Entry}
use Rattle.rrc_history.specs.Past.{is_among}
use Rattle.rrc_history.specs.Entries.{AreApart, fully_expired_keys}
use Rattle.rrc_history.specs.lemmas.SweepLaws.{fully_expired_keys-found}
use Rattle.rrc_cache.specs.declared.expiry_queue.Expiry.{Expiry}
use Rattle.rrc_cache.specs.ExpiryQueue.{AreQueued, ExpiryQueueOf, expired_among}
use Rattle.rrc_cache.specs.Pairs.{EntriesOf, StoreOf}
use Rattle.rrc_cache.proofs.Stored.{queued_store}
use Rattle.rrc_cache.proofs.Timed.{due_swept}
use Rattle.rrc_cache.proofs.store.Store.find_expired.Goals as goal

pub invariant_of-self : goal.invariant_of-self
invariant_of-self c =
    queued_store c.self.inside.stale c.self.inside.filtered.entries c.self.inside.queue c.find_due.new.queue c.self.invariant
    (subst (λ (map : EntriesOf). AreQueued c.self.inside.stale map.entries c.self.inside.queue → AreQueued c.self.inside.stale map.entries c.find_due.new.queue) c.map-2.ensures
    c.find_due.ensures.queued c.self.invariant.queued)

pub returns-clause-expired : goal.returns-clause-expired
returns-clause-expired c =
    let stale : ℕ = c.self.inside.stale in
    let queue : ExpiryQueueOf = c.find_due.new.queue in
    let entries : List Entry = c.self.inside.filtered.entries in
    let are : AreQueued stale entries queue = subst (λ (map : EntriesOf). AreQueued stale map.entries c.self.inside.queue → AreQueued stale map.entries queue) c.map-2.ensures
    c.find_due.ensures.queued c.self.invariant.queued in
    let apart : AreApart entries = subst (λ (map : EntriesOf). AreApart map.entries) c.map.ensures c.has_distinct_keys.ensures in
    let listed : (key : KeyOf) → is_among key (expired_among stale c.args.moment c.map-3.result.now.entries c.due.result.now) ≡ is_among key (fully_expired_keys c.args.self.now.stale c.args.moment c.args.self.now.entries) = λ key.
    ap (λ (map : EntriesOf). is_among key (expired_among stale c.args.moment map.entries c.due.result.now)) c.map-3.ensures
    ∙ (ap (λ (expiries : List Expiry). is_among key (expired_among stale c.args.moment entries expiries)) c.due.ensures
    ∙ (due_swept stale c.args.moment entries queue are c.requires c.in_ok-find_due.ensures.kept c.in_ok-find_due.ensures.waiting key
    ∙ (sym (fully_expired_keys-found stale c.args.moment key entries apart)
    ∙ ap (λ (store : StoreOf). is_among key (fully_expired_keys store.stale c.args.moment store.entries)) c.self.view_is))) in
    IfOk-weaker c.expired_among.result (λ keys. keys.items ≡ expired_among stale c.args.moment c.map-3.result.now.entries c.due.result.now)
    (λ keys. (key : KeyOf) → is_among key keys.items ≡ is_among key (fully_expired_keys c.args.self.now.stale c.args.moment c.args.self.now.entries))
    (λ keys is key. ap (is_among key) is ∙ listed key) c.expired_among.ensures
