-- SPDX-License-Identifier: MIT
use Rattle.std.proofs.Common.{◌≡◌, ℕ, ap, sym, subst, ◌∙◌}
use Rattle.std.specs.Prelude.{IfSome, IsSome}
use Rattle.std.specs.Map.{lookup}
use Rattle.std.proofs.lemmas.Result.{on_ok_weaker}
use Rattle.lru.specs.LruCache.{LruCache, lru_cache, put_entries}
use Rattle.rrc_name.specs.Key.{KeyOf, key_eq}
use Rattle.rrc_name.specs.KeyRef.{key_of}
use Rattle.rrc_history.specs.declared.snapshot.Entry.{Entry}
use Rattle.rrc_history.specs.Fits.{OfferOf}
use Rattle.rrc_history.specs.Past.{entry_of}
use Rattle.rrc_cache.specs.declared.hashed.HashedKey.{HashedKey}
use Rattle.rrc_cache.specs.Keyed.{AreHashed, KeyedOf, hashed_eq, name_hash}
use Rattle.rrc_cache.proofs.Plain.{either, found_own, hashed_promoted, hashed_set, shown_lookup, shown_written}
use Rattle.rrc_cache.proofs.keyed.Keyed.overwrite.Goals as goal

-- the hash of one key is that of the same key
its : (now : KeyedOf) (hash : ℕ) (key own : KeyOf) → key ≡ own → hash ≡ name_hash now.seeded own.name → hash ≡ name_hash now.seeded key.name
its now hash key own same is = is ∙ ap (λ (k : KeyOf). name_hash now.seeded k.name) (sym same)

pub overwrite-requires-clause-own : goal.overwrite-requires-clause-own
overwrite-requires-clause-own c =
    let key : KeyOf = key_of c.of-key.result in
    let same : key ≡ c.args.offer.now.key = c.of-key.ensures.value ∙ ap (λ (offer : OfferOf). offer.key) c.offer.view_is in
    let wanted : HashedKey = record { hash = c.args.hash; key = key } in
    let found : lookup (hashed_eq wanted) c.self.inside.cache.entries ≡ lookup (key_eq key) c.args.self.now.map.entries =
    shown_lookup c.self.inside.seeded c.self.inside.cache c.args.self.now c.self.view_is c.self.invariant c.args.hash key
    (its c.args.self.now c.args.hash key c.args.offer.now.key same c.requires.hash) in
    subst (λ own. IfSome (lookup (hashed_eq wanted) c.self.inside.cache.entries) (λ entry. entry.key ≡ own)) same
    (subst (λ held. IfSome held (λ entry. entry.key ≡ key)) (sym found) (found_own key c.args.self.now.map.entries c.requires.own))

pub overwrite-requires-clause-held : goal.overwrite-requires-clause-held
overwrite-requires-clause-held c =
    let key : KeyOf = key_of c.of-key.result in
    let same : key ≡ c.args.offer.now.key = c.of-key.ensures.value ∙ ap (λ (offer : OfferOf). offer.key) c.offer.view_is in
    let wanted : HashedKey = record { hash = c.args.hash; key = key } in
    let found : lookup (hashed_eq wanted) c.self.inside.cache.entries ≡ lookup (key_eq key) c.args.self.now.map.entries =
    shown_lookup c.self.inside.seeded c.self.inside.cache c.args.self.now c.self.view_is c.self.invariant c.args.hash key
    (its c.args.self.now c.args.hash key c.args.offer.now.key same c.requires.hash) in
    subst (λ held. IsSome held) (sym found) (subst (λ k. IsSome (lookup (key_eq k) c.args.self.now.map.entries)) (sym same) c.requires.held)

pub invariant_of-self : goal.invariant_of-self
invariant_of-self c =
    let wanted : HashedKey = record { hash = c.args.hash; key = key_of c.of-key.result } in
    let entry : Entry = entry_of c.args.offer.now c.args.number in
    either c.overwrite.result _ _ _ c.overwrite.ensures.ok c.overwrite.ensures.err
    (λ is. subst (λ (cache : LruCache HashedKey Entry). AreHashed c.self.inside.seeded cache.entries) (sym is)
    (hashed_promoted c.self.inside.seeded (hashed_eq wanted) _ (hashed_set c.self.inside.seeded (hashed_eq wanted) entry c.self.inside.cache.entries c.self.invariant)))
    (λ is. subst (λ (cache : LruCache HashedKey Entry). AreHashed c.self.inside.seeded cache.entries) (sym is) c.self.invariant)

pub returns-clause-ok : goal.returns-clause-ok
returns-clause-ok c =
    let key : KeyOf = key_of c.of-key.result in
    let same : key ≡ c.args.offer.now.key = c.of-key.ensures.value ∙ ap (λ (offer : OfferOf). offer.key) c.offer.view_is in
    let entry : Entry = entry_of c.args.offer.now c.args.number in
    let held : IsSome (lookup (key_eq key) c.args.self.now.map.entries) = subst (λ k. IsSome (lookup (key_eq k) c.args.self.now.map.entries)) (sym same) c.requires.held in
    on_ok_weaker c.overwrite.result
    (λ is. shown_written c.self.inside.seeded c.self.inside.cache c.args.self.now c.self.view_is c.self.invariant c.args.hash key
    (its c.args.self.now c.args.hash key c.args.offer.now.key same c.requires.hash) entry c.overwrite.new.self held is
    ∙ ap (λ k. lru_cache (put_entries key_eq c.args.self.now.map k entry) c.args.self.now.map.cap) same) c.overwrite.ensures.ok
