-- SPDX-License-Identifier: MIT
use Rattle.std.proofs.Common.{◌≡◌, ℕ, List, Option, true, refl, ap, sym, subst, ◌∙◌}
use Rattle.std.specs.Prelude.{IfSome}
use Rattle.rrc_history.specs.declared.snapshot.Entry.{Entry}
use Rattle.rrc_cache.specs.declared.expiry_queue.Expiry.{Expiry}
use Rattle.rrc_cache.specs.ExpiryQueue.{AreQueued, is_expired_by}
use Rattle.rrc_cache.specs.FullExpiry.{full_expiry_of}
use Rattle.rrc_cache.specs.Keyed.{name_hash}
use Rattle.rrc_cache.specs.Pairs.{EntriesOf, IsStore, StoreOf}
use Rattle.rrc_cache.proofs.Paired.{edited_store}
use Rattle.rrc_cache.proofs.Put.{added_queued, with_entry}
use Rattle.rrc_cache.proofs.Stored.{edited_queue, same_store}
use Rattle.rrc_cache.proofs.Timed.{queued_before, put_queued, same_queued}
use Rattle.rrc_cache.proofs.store.Store.put_queued.Goals as goal

pub put-requires : goal.put-requires
put-requires c = c.requires ∙ ap (λ (store : StoreOf). name_hash store.seeded c.args.entry.key.name) (sym c.self.view_is)

pub invariant_of-self-then-not-is_queued : goal.invariant_of-self-then-not-is_queued
invariant_of-self-then-not-is_queued c =
    let stale : ℕ = c.self.inside.stale in
    let entries : List Entry = c.self.inside.filtered.entries in
    let expiry : Expiry = c.in-Some.expiry in
    let made : expiry ≡ record { time = c.full_expiry_of-time.result; key = c.args.entry.key } = subst (λ (it : Option Expiry). IfSome it (λ it. it ≡ record { time = c.full_expiry_of-time.result; key = c.args.entry.key })) c.in-Some.is c.in_ok-expiry.ensures.some in
    let are : AreQueued stale entries c.expiry_to_keep.new.queue = same_queued stale entries c.self.inside.queue c.expiry_to_keep.new.queue c.expiry_to_keep.ensures.same c.self.invariant.queued in
    edited_queue stale (with_entry c.args.entry entries) c.put.new.self c.add.new.self c.self.invariant.limit (ap (λ (map : EntriesOf). map.entries) c.in_ok-old.ensures.ok)
    (added_queued stale entries c.expiry_to_keep.new.queue c.add.new.self c.args.entry are expiry c.add.ensures (ap (λ (it : Expiry). it.time) made ∙ c.full_expiry_of-time.ensures) (ap (λ (it : Expiry). it.key) made))

pub invariant_of-self-else-not-is_queued : goal.invariant_of-self-else-not-is_queued
invariant_of-self-else-not-is_queued c =
    let stale : ℕ = c.self.inside.stale in
    let entry : Entry = c.args.entry in
    let entries : List Entry = c.self.inside.filtered.entries in
    let are : AreQueued stale entries c.expiry_to_keep.new.queue = same_queued stale entries c.self.inside.queue c.expiry_to_keep.new.queue c.expiry_to_keep.ensures.same c.self.invariant.queued in
    let gone : is_expired_by stale (full_expiry_of stale entry) c.in_ok-old.old ≡ true =
    sym (ap (λ (time : ℕ). is_expired_by stale time c.in_ok-old.old) c.full_expiry_of-time.ensures) ∙ (sym c.is_expired_by-is_queued.ensures ∙ c.if-not-is_queued.false) in
    edited_queue stale (with_entry entry entries) c.put.new.self c.expiry_to_keep.new.queue c.self.invariant.limit (ap (λ (map : EntriesOf). map.entries) c.in_ok-old.ensures.ok)
    (put_queued stale entries c.expiry_to_keep.new.queue are entry c.expiry_to_keep.new.queue (λ key time is. is)
    (queued_before stale entries c.expiry_to_keep.new.queue are entry c.in_ok-old.old (sym c.in_ok-old.ensures.old) gone))

pub invariant_of-self-in_err-old : goal.invariant_of-self-in_err-old
invariant_of-self-in_err-old c =
    subst (λ (map : EntriesOf). IsStore c.self.inside.stale map.entries c.expiry_to_keep.new.queue) (sym c.in_err-old.ensures.err)
    (same_store c.self.inside.stale c.self.inside.filtered.entries c.self.inside.queue c.expiry_to_keep.new.queue c.expiry_to_keep.ensures.same c.self.invariant)

pub returns-then-not-is_queued-clause-ok : goal.returns-then-not-is_queued-clause-ok
returns-then-not-is_queued-clause-ok c =
    edited_store (with_entry c.args.entry) c.self.inside.stale c.self.inside.filtered c.put.new.self c.args.self.now c.in_ok-old.ensures.ok c.self.view_is

pub returns-else-not-is_queued-clause-ok : goal.returns-else-not-is_queued-clause-ok
returns-else-not-is_queued-clause-ok c =
    edited_store (with_entry c.args.entry) c.self.inside.stale c.self.inside.filtered c.put.new.self c.args.self.now c.in_ok-old.ensures.ok c.self.view_is

pub invariant_of-self-in-None : goal.invariant_of-self-in-None
invariant_of-self-in-None c =
    let stale : ℕ = c.self.inside.stale in
    let entries : List Entry = c.self.inside.filtered.entries in
    let expiry : Expiry = record { time = c.full_expiry_of-time.result; key = c.args.entry.key } in
    let are : AreQueued stale entries c.expiry_to_keep.new.queue = same_queued stale entries c.self.inside.queue c.expiry_to_keep.new.queue c.expiry_to_keep.ensures.same c.self.invariant.queued in
    edited_queue stale (with_entry c.args.entry entries) c.put.new.self c.note.new.self c.self.invariant.limit (ap (λ (map : EntriesOf). map.entries) c.in_ok-old.ensures.ok)
    (added_queued stale entries c.expiry_to_keep.new.queue c.note.new.self c.args.entry are expiry (c.note.ensures expiry refl) c.full_expiry_of-time.ensures refl)
