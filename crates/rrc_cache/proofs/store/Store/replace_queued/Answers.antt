-- SPDX-License-Identifier: MIT
use Rattle.std.proofs.Common.{◌≡◌, ℕ, Bool, nat_le, if◌then◌else◌, List, Option, Some, None, true, false, refl, ap, sym, subst, ◌∙◌}
use Rattle.std.specs.Prelude.{is_some, IfSome}
use Rattle.std.specs.Option.{option_map}
use Rattle.rrc_name.specs.Key.{KeyOf}
use Rattle.rrc_history.specs.declared.snapshot.Entry.{Entry}
use Rattle.rrc_history.specs.Fits.{OfferOf}
use Rattle.rrc_history.specs.Past.{entry_at, entry_of}
use Rattle.rrc_cache.specs.declared.expiry_queue.Expiry.{Expiry}
use Rattle.rrc_cache.specs.declared.replaced.Replaced.{Replaced}
use Rattle.rrc_cache.specs.Counted.{counted_octets}
use Rattle.rrc_cache.specs.ExpiryQueue.{AreQueued, is_expired_by, replaced_of}
use Rattle.rrc_cache.specs.FullExpiry.{full_expiry, full_expiry_of}
use Rattle.rrc_cache.specs.Keyed.{name_hash}
use Rattle.rrc_cache.specs.Pairs.{EntriesOf, StoreOf}
use Rattle.rrc_cache.proofs.Paired.{edited_store}
use Rattle.rrc_cache.proofs.Put.{added_queued, with_entry}
use Rattle.rrc_cache.proofs.Stored.{edited_queue}
use Rattle.rrc_cache.proofs.Timed.{queued_before, put_queued, same_queued}
use Rattle.rrc_cache.proofs.store.Store.replace_queued.Goals as goal

-- octets that are told are those of the entry
its : (counts : Bool) (octets told : ℕ) → (if counts then Some octets else None) ≡ Some told → octets ≡ told
its true octets told is = cc
its false octets told is = absurd cc

-- what is told of the entry that is replaced
module _ (stale : ℕ) (found : Option Entry) (replaced : Replaced) (told : option_map (replaced_of stale (is_some replaced.octets)) found ≡ Some replaced) where
  its_octets : IfSome replaced.octets (λ octets. option_map counted_octets found ≡ Some octets)
  its_octets = by replaced.octets refl found told
    where
      by : (o : Option ℕ) → replaced.octets ≡ o → (f : Option Entry) → option_map (replaced_of stale (is_some replaced.octets)) f ≡ Some replaced
          → IfSome o (λ octets. option_map counted_octets f ≡ Some octets)
      by None at f is = tt
      by (Some octets) at None is = absurd cc
      by (Some octets) at (Some entry) is =
          let same : replaced_of stale (is_some replaced.octets) entry ≡ replaced = cc in
          ap Some (its (is_some replaced.octets) (counted_octets entry) octets (ap (λ (r : Replaced). r.octets) same ∙ at))

  its_number : option_map (λ entry. entry.number) found ≡ Some replaced.number
  its_number = by found told
    where
      by : (f : Option Entry) → option_map (replaced_of stale (is_some replaced.octets)) f ≡ Some replaced → option_map (λ entry. entry.number) f ≡ Some replaced.number
      by None is = absurd cc
      by (Some entry) is = let same : replaced_of stale (is_some replaced.octets) entry ≡ replaced = cc in ap (λ (r : Replaced). Some r.number) same

  its_expiry : (time : ℕ) → is_expired_by stale time found ≡ nat_le replaced.expires time
  its_expiry time = by found told
    where
      by : (f : Option Entry) → option_map (replaced_of stale (is_some replaced.octets)) f ≡ Some replaced → is_expired_by stale time f ≡ nat_le replaced.expires time
      by None is = absurd cc
      by (Some entry) is = let same : replaced_of stale (is_some replaced.octets) entry ≡ replaced = cc in ap (λ (r : Replaced). nat_le r.expires time) same

-- an expiry waits only where the one that is replaced expires later
none_waits : (b : Bool) (expiry : Expiry) → (if b then None else Some expiry) ≡ None → b ≡ true
none_waits true expiry is = refl
none_waits false expiry is = absurd cc

one_waits : (b : Bool) (expiry waiting : Expiry) → (if b then None else Some expiry) ≡ Some waiting → waiting ≡ expiry
one_waits true expiry waiting is = absurd cc
one_waits false expiry waiting is = let same : expiry ≡ waiting = cc in sym same

pub overwrite-requires-clause-hash : goal.overwrite-requires-clause-hash
overwrite-requires-clause-hash c = c.requires.hash ∙ ap (λ (store : StoreOf). name_hash store.seeded c.args.offer.now.key.name) (sym c.self.view_is)

pub overwrite-requires-clause-number : goal.overwrite-requires-clause-number
overwrite-requires-clause-number c =
    let key : KeyOf = c.args.offer.now.key in
    let told = subst (λ (store : StoreOf). option_map (replaced_of store.stale (is_some c.args.replaced.octets)) (entry_at key store.entries) ≡ Some c.args.replaced) (sym c.self.view_is) c.requires.held in
    its_number c.self.inside.stale (entry_at key c.self.inside.filtered.entries) c.args.replaced told

pub overwrite-requires-clause-octets : goal.overwrite-requires-clause-octets
overwrite-requires-clause-octets c =
    let key : KeyOf = c.args.offer.now.key in
    let told = subst (λ (store : StoreOf). option_map (replaced_of store.stale (is_some c.args.replaced.octets)) (entry_at key store.entries) ≡ Some c.args.replaced) (sym c.self.view_is) c.requires.held in
    its_octets c.self.inside.stale (entry_at key c.self.inside.filtered.entries) c.args.replaced told

pub invariant_of-self-in-Some : goal.invariant_of-self-in-Some
invariant_of-self-in-Some c =
    let stale : ℕ = c.self.inside.stale in
    let entries : List Entry = c.self.inside.filtered.entries in
    let entry : Entry = entry_of c.args.offer.now c.args.number in
    let are : AreQueued stale entries c.reserve.new.self = same_queued stale entries c.self.inside.queue c.reserve.new.self c.reserve.ensures.same c.self.invariant.queued in
    let time : c.full_expiry-time.result ≡ full_expiry_of stale entry = c.full_expiry-time.ensures ∙ ap (λ (offer : OfferOf). full_expiry stale offer.body offer.moment) c.offer.view_is in
    let own : c.offer.inside.key ≡ entry.key = ap (λ (offer : OfferOf). offer.key) c.offer.view_is in
    let expiry : Expiry = record { time = c.full_expiry-time.result; key = c.offer.inside.key } in
    let waits : c.in-Some.expiry ≡ expiry = one_waits (nat_le c.args.replaced.expires c.full_expiry-time.result) expiry c.in-Some.expiry (sym c.in_ok-expiry.ensures ∙ c.in-Some.is) in
    edited_queue stale (with_entry entry entries) c.overwrite.new.self c.add.new.self c.self.invariant.limit (ap (λ (map : EntriesOf). map.entries) c.in_ok-overwrite.ensures.ok)
    (added_queued stale entries c.reserve.new.self c.add.new.self entry are c.in-Some.expiry c.add.ensures
    (ap (λ (e : Expiry). e.time) waits ∙ time) (ap (λ (e : Expiry). e.key) waits ∙ own))

pub invariant_of-self-in_default : goal.invariant_of-self-in_default
invariant_of-self-in_default c =
    let stale : ℕ = c.self.inside.stale in
    let entries : List Entry = c.self.inside.filtered.entries in
    let entry : Entry = entry_of c.args.offer.now c.args.number in
    let found : Option Entry = entry_at entry.key entries in
    let are : AreQueued stale entries c.reserve.new.self = same_queued stale entries c.self.inside.queue c.reserve.new.self c.reserve.ensures.same c.self.invariant.queued in
    let told = subst (λ (store : StoreOf). option_map (replaced_of store.stale (is_some c.args.replaced.octets)) (entry_at entry.key store.entries) ≡ Some c.args.replaced) (sym c.self.view_is) c.requires.held in
    let time : c.full_expiry-time.result ≡ full_expiry_of stale entry = c.full_expiry-time.ensures ∙ ap (λ (offer : OfferOf). full_expiry stale offer.body offer.moment) c.offer.view_is in
    let expiry : Expiry = record { time = c.full_expiry-time.result; key = c.offer.inside.key } in
    let early : nat_le c.args.replaced.expires c.full_expiry-time.result ≡ true =
    none_waits (nat_le c.args.replaced.expires c.full_expiry-time.result) expiry (sym c.in_ok-expiry.ensures ∙ c.in_default.is) in
    let gone : is_expired_by stale (full_expiry_of stale entry) found ≡ true =
    its_expiry stale found c.args.replaced told (full_expiry_of stale entry) ∙ (ap (nat_le c.args.replaced.expires) (sym time) ∙ early) in
    edited_queue stale (with_entry entry entries) c.overwrite.new.self c.reserve.new.self c.self.invariant.limit (ap (λ (map : EntriesOf). map.entries) c.in_ok-overwrite.ensures.ok)
    (put_queued stale entries c.reserve.new.self are entry c.reserve.new.self (λ key time is. is) (queued_before stale entries c.reserve.new.self are entry found refl gone))

pub returns-in-Some-clause-ok : goal.returns-in-Some-clause-ok
returns-in-Some-clause-ok c =
    edited_store (with_entry (entry_of c.args.offer.now c.args.number)) c.self.inside.stale c.self.inside.filtered c.overwrite.new.self c.args.self.now c.in_ok-overwrite.ensures.ok c.self.view_is

pub returns-in_default-clause-ok : goal.returns-in_default-clause-ok
returns-in_default-clause-ok c =
    edited_store (with_entry (entry_of c.args.offer.now c.args.number)) c.self.inside.stale c.self.inside.filtered c.overwrite.new.self c.args.self.now c.in_ok-overwrite.ensures.ok c.self.view_is
