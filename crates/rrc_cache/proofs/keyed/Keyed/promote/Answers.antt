-- SPDX-License-Identifier: MIT
use Rattle.std.proofs.Common.{◌≡◌, ℕ, Bool, true, false, ap, sym, subst, ◌∙◌}
use Rattle.std.specs.Prelude.{is_some}
use Rattle.std.specs.Map.{lookup}
use Rattle.lru.specs.LruCache.{LruCache, lru_cache, promoted}
use Rattle.rrc_name.specs.Key.{KeyOf, key_eq}
use Rattle.rrc_name.specs.KeyRef.{key_of}
use Rattle.rrc_history.specs.declared.snapshot.Entry.{Entry}
use Rattle.rrc_cache.specs.declared.hashed.HashedKey.{HashedKey}
use Rattle.rrc_cache.specs.declared.seeded.Seeded.{Seeded}
use Rattle.rrc_cache.specs.Keyed.{AreHashed, KeyedOf, hashed_eq, name_hash}
use Rattle.rrc_cache.proofs.Plain.{hashed_promoted, hint_found, shown, shown_lookup, shown_promoted, unmoved}
use Rattle.rrc_cache.proofs.keyed.Keyed.promote.Goals as goal

module _ (seeded : Seeded) (cache new : LruCache HashedKey Entry) (now : KeyedOf) (view : shown seeded cache ≡ now) (are : AreHashed seeded cache.entries)
    (hint : ℕ) (key : KeyOf) (is : new ≡ lru_cache (promoted (hashed_eq (record { hash = hint; key = key })) cache.entries) cache.cap)
    (found : Bool) (whether : found ≡ is_some (lookup (hashed_eq (record { hash = hint; key = key })) cache.entries)) where
  abbrev wanted : HashedKey
  wanted = record { hash = hint; key = key }

  hashed : AreHashed seeded new.entries
  hashed = subst (λ (c : LruCache HashedKey Entry). AreHashed seeded c.entries) (sym is) (hashed_promoted seeded (hashed_eq wanted) cache.entries are)

  -- the hint is the hash, where something is found by it
  own : found ≡ true → hint ≡ name_hash now.seeded key.name
  own there = hint_found seeded wanted cache.entries are (sym whether ∙ there) ∙ ap (λ (k : KeyedOf). name_hash k.seeded key.name) view

  -- nothing has moved, where nothing is found
  shows : found ≡ false → shown seeded new ≡ now
  shows none = ap (shown seeded) (is ∙ ap (λ es. lru_cache es cache.cap) (unmoved (hashed_eq wanted) cache.entries (sym whether ∙ none))) ∙ view

pub invariant_of-self : goal.invariant_of-self
invariant_of-self c =
    hashed c.self.inside.seeded c.self.inside.cache c.promote.new.self c.args.self.now c.self.view_is c.self.invariant c.args.hint (key_of c.args.key) c.promote.ensures.entries
    c.promote.result c.promote.ensures.value

pub returns-then-promote-clause-value : goal.returns-then-promote-clause-value
returns-then-promote-clause-value c =
    sym c.if-promote.true
    ∙ (c.promote.ensures.value
    ∙ ap is_some (shown_lookup c.self.inside.seeded c.self.inside.cache c.args.self.now c.self.view_is c.self.invariant c.args.hint (key_of c.args.key)
    (own c.self.inside.seeded c.self.inside.cache c.promote.new.self c.args.self.now c.self.view_is c.self.invariant c.args.hint (key_of c.args.key) c.promote.ensures.entries
    c.promote.result c.promote.ensures.value c.if-promote.true)))

pub returns-then-promote-clause-entries : goal.returns-then-promote-clause-entries
returns-then-promote-clause-entries c =
    shown_promoted c.self.inside.seeded c.self.inside.cache c.args.self.now c.self.view_is c.self.invariant c.args.hint (key_of c.args.key)
    (own c.self.inside.seeded c.self.inside.cache c.promote.new.self c.args.self.now c.self.view_is c.self.invariant c.args.hint (key_of c.args.key) c.promote.ensures.entries
    c.promote.result c.promote.ensures.value c.if-promote.true)
    c.promote.new.self c.promote.ensures.entries

pub invariant_of-self-2 : goal.invariant_of-self-2
invariant_of-self-2 c =
    hashed c.self.inside.seeded c.self.inside.cache c.promote.new.self c.args.self.now c.self.view_is c.self.invariant c.args.hint (key_of c.args.key) c.promote.ensures.entries
    c.promote.result c.promote.ensures.value

pub returns-clause-value : goal.returns-clause-value
returns-clause-value c =
    c.promote_hashed.ensures.value
    ∙ ap (λ (k : KeyedOf). is_some (lookup (key_eq (key_of c.args.key)) k.map.entries))
    (shows c.self.inside.seeded c.self.inside.cache c.promote.new.self c.args.self.now c.self.view_is c.self.invariant c.args.hint (key_of c.args.key) c.promote.ensures.entries
    c.promote.result c.promote.ensures.value c.if-promote.false)

pub returns-clause-entries : goal.returns-clause-entries
returns-clause-entries c =
    c.promote_hashed.ensures.entries
    ∙ ap (λ (k : KeyedOf). lru_cache (promoted (key_eq (key_of c.args.key)) k.map.entries) k.map.cap)
    (shows c.self.inside.seeded c.self.inside.cache c.promote.new.self c.args.self.now c.self.view_is c.self.invariant c.args.hint (key_of c.args.key) c.promote.ensures.entries
    c.promote.result c.promote.ensures.value c.if-promote.false)
