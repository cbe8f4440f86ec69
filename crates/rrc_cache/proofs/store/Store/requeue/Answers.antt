-- SPDX-License-Identifier: MIT
use Rattle.std.proofs.Common.{◌≡◌, List, Some, None, refl, ap, sym, ◌∙◌}
use Rattle.std.specs.Option.{option_map}
use Rattle.rrc_name.specs.Key.{KeyOf}
use Rattle.rrc_name.specs.KeyRef.{key_of}
use Rattle.rrc_history.specs.declared.snapshot.Entry.{Entry}
use Rattle.rrc_history.specs.Past.{entry_at}
use Rattle.rrc_cache.specs.Clocked.{aged_in}
use Rattle.rrc_cache.specs.Pairs.{EntriesOf}
use Rattle.rrc_cache.proofs.Stored.{gone_store, held_store, repeated_store}
use Rattle.rrc_cache.proofs.store.Store.requeue.Goals as goal

pub invariant_of-self : goal.invariant_of-self
invariant_of-self c =
    repeated_store c.self.inside.stale c.self.inside.filtered.entries c.self.inside.queue c.next_due.new.self c.in-Some.expiry c.self.invariant c.in-Some.ensures.some
    (c.is_repeated.ensures c.if-is_repeated.true)

pub invariant_of-self-in-Some-get : goal.invariant_of-self-in-Some-get
invariant_of-self-in-Some-get c =
    let key : KeyOf = key_of c.of-key.result in
    let entries : List Entry = c.self.inside.filtered.entries in
    let found : entry_at key entries ≡ Some c.in-Some-get.aged.entry.now =
    ap (λ (map : EntriesOf). entry_at key map.entries) (sym c.map-map.ensures) ∙ (sym c.get.ensures.entry ∙ ap (option_map aged_in) c.in-Some-get.is) in
    held_store c.self.inside.stale entries c.self.inside.queue c.next_due.new.self c.in-Some.expiry c.self.invariant c.in-Some.ensures.some
    c.in-Some.expiry.key c.in-Some-get.aged.entry.now c.full_expiry_of-time.result c.add.new.self refl
    (ap (λ k. entry_at k entries) (sym c.of-key.ensures.value) ∙ found) c.full_expiry_of-time.ensures c.add.ensures

pub invariant_of-self-in-None-1 : goal.invariant_of-self-in-None-1
invariant_of-self-in-None-1 c =
    let key : KeyOf = key_of c.of-key.result in
    let entries : List Entry = c.self.inside.filtered.entries in
    let none : entry_at key entries ≡ None =
    ap (λ (map : EntriesOf). entry_at key map.entries) (sym c.map-map.ensures) ∙ (sym c.get.ensures.entry ∙ ap (option_map aged_in) c.in-None.is) in
    gone_store c.self.inside.stale entries c.self.inside.queue c.next_due.new.self c.in-Some.expiry c.self.invariant c.in-Some.ensures.some
    c.in-Some.expiry.key refl (ap (λ k. entry_at k entries) (sym c.of-key.ensures.value) ∙ none)
