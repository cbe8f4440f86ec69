-- SPDX-License-Identifier: MIT
-- What a map of keys with their hashes does is what a map of the keys would do.
use Rattle.std.proofs.Common.{◌≡◌, ℕ, zero, suc, ◌+◌, ◌-◌, List, [], ◌∷◌, length, take, Bool, true, false, ◌&&◌, Option, Some, None, refl, sym, ap, subst, ◌∙◌, arith}
use Rattle.std.specs.Prelude.{cond, if◌then◌else◌, is_some, nat_eq, IfSome, IsSome, Result, Ok, Err, OnOk, OnErr}
use Rattle.std.specs.Cmp.{nat_eq_equiv}
use Rattle.std.specs.List.{AllByRecursion, IsDistinct, slice_get}
use Rattle.std.specs.Option.{option_map, option_map_or}
use Rattle.std.specs.Map.{keys_of, lookup, lookup_entry, remove_entry, set_value}
use Rattle.std.proofs.lemmas.List.{length-map, take-map}
use Rattle.std.proofs.lemmas.Option.{slice_get-map}
use Rattle.lru.specs.LruCache as lru
use Rattle.rrc_name.specs.Key.{KeyOf, key_eq}
use Rattle.rrc_name.specs.lemmas.KeyLaws.{key_eq-same}
use Rattle.rrc_history.specs.declared.snapshot.Entry.{Entry}
use Rattle.rrc_history.specs.Past.{entry_at}
use Rattle.rrc_history.specs.lemmas.EntryLaws.{entry_at-key}
use Rattle.rrc_cache.specs.declared.clocked.Stamped.{Stamped}
use Rattle.rrc_cache.specs.declared.hashed.HashedKey.{HashedKey}
use Rattle.rrc_cache.specs.Clocked.{ahead_in, unstamped}
use Rattle.rrc_cache.specs.declared.seeded.Seeded.{Seeded}
use Rattle.rrc_cache.specs.KeyedLaws.{hashed_eq-same}
use Rattle.rrc_cache.specs.Keyed.{AreHashed, IsHashed, KeyedOf, hashed_eq, hashed_entries, name_hash, plain, plain_pair}
use Rattle.rrc_cache.specs.Pairs.{entries_in, AreOwn}
use Rattle.rrc_cache.proofs.Paired.{found_in_pairs, written_put}

-- the entries are the same
pub held_plain : (pairs : List (HashedKey × Stamped)) → hashed_entries pairs ≡ entries_in (plain (unstamped pairs))
held_plain [] = refl
held_plain (pair ∷ pairs) = ap (λ es. pair.1.entry ∷ es) (held_plain pairs)

-- ---- keys

and_false : (b : Bool) → (b && false) ≡ false
and_false true = refl
and_false false = refl

-- where each hash is that of the name, keys with their hashes are the same just where the keys are
pub same_keys : (seeded : Seeded) (wanted held : HashedKey) → IsHashed seeded wanted → IsHashed seeded held → hashed_eq wanted held ≡ key_eq wanted.key held.key
same_keys seeded wanted held own is = by (key_eq wanted.key held.key) refl
  where
    by : (b : Bool) → key_eq wanted.key held.key ≡ b → hashed_eq wanted held ≡ key_eq wanted.key held.key
    by false other = ap (λ b. nat_eq wanted.hash held.hash && b) other ∙ (and_false (nat_eq wanted.hash held.hash) ∙ sym other)
    by true same =
        let one : held.hash ≡ wanted.hash = is ∙ (ap (λ (k : KeyOf). name_hash seeded k.name) (sym (key_eq-same wanted.key held.key same)) ∙ sym own) in
        ap (λ h. nat_eq wanted.hash h && key_eq wanted.key held.key) one
        ∙ ap (λ b. b && key_eq wanted.key held.key) (nat_eq_equiv.refl wanted.hash)

-- a test of keys with their hashes tells of each key what another tells of the key alone
abbrev pub Agree : (HashedKey → Bool) → (KeyOf → Bool) → List (HashedKey × Entry) → Type 0
Agree test alone pairs = AllByRecursion (λ pair. test pair.0 ≡ alone pair.0.key) pairs

pub agreed : (seeded : Seeded) (wanted : HashedKey) (pairs : List (HashedKey × Entry)) → IsHashed seeded wanted → AreHashed seeded pairs
    → Agree (hashed_eq wanted) (key_eq wanted.key) pairs
agreed seeded wanted [] own are = tt
agreed seeded wanted (pair ∷ pairs) own are = (same_keys seeded wanted pair.0 own are.0, agreed seeded wanted pairs own are.1)

module _ (test : HashedKey → Bool) (alone : KeyOf → Bool) where
  pub lookup_plain : (pairs : List (HashedKey × Entry)) → Agree test alone pairs → lookup test pairs ≡ lookup alone (plain pairs)
  lookup_plain [] agree = refl
  lookup_plain (pair ∷ pairs) agree =
      ap (λ b. cond b (Some pair.1) (lookup test pairs)) agree.0 ∙ ap (λ rest. cond (alone pair.0.key) (Some pair.1) rest) (lookup_plain pairs agree.1)

  pub ahead_plain : (pairs : List (HashedKey × Entry)) → Agree test alone pairs → ahead_in test pairs ≡ ahead_in alone (plain pairs)
  ahead_plain [] agree = refl
  ahead_plain (pair ∷ pairs) agree =
      ap (λ b. if b then 0 else ahead_in test pairs + 1) agree.0 ∙ ap (λ n. if alone pair.0.key then 0 else n + 1) (ahead_plain pairs agree.1)

  pub lookup_entry_plain : (pairs : List (HashedKey × Entry)) → Agree test alone pairs
      → option_map (λ pair. plain_pair pair) (lookup_entry test pairs) ≡ lookup_entry alone (plain pairs)
  lookup_entry_plain [] agree = refl
  lookup_entry_plain (pair ∷ pairs) agree =
      ap (λ b. option_map (λ p. plain_pair p) (cond b (Some pair) (lookup_entry test pairs))) agree.0
      ∙ by (alone pair.0.key) (lookup_entry_plain pairs agree.1)
    where
      by : (b : Bool) → option_map (λ p. plain_pair p) (lookup_entry test pairs) ≡ lookup_entry alone (plain pairs)
          → option_map (λ p. plain_pair p) (cond b (Some pair) (lookup_entry test pairs)) ≡ cond b (Some (plain_pair pair)) (lookup_entry alone (plain pairs))
      by true rest = refl
      by false rest = rest

  pub remove_plain : (pairs : List (HashedKey × Entry)) → Agree test alone pairs → plain (remove_entry test pairs) ≡ remove_entry alone (plain pairs)
  remove_plain [] agree = refl
  remove_plain (pair ∷ pairs) agree =
      ap (λ b. plain (cond b pairs (pair ∷ remove_entry test pairs))) agree.0 ∙ by (alone pair.0.key) (remove_plain pairs agree.1)
    where
      by : (b : Bool) → plain (remove_entry test pairs) ≡ remove_entry alone (plain pairs)
          → plain (cond b pairs (pair ∷ remove_entry test pairs)) ≡ cond b (plain pairs) (plain_pair pair ∷ remove_entry alone (plain pairs))
      by true rest = refl
      by false rest = ap (λ ps. plain_pair pair ∷ ps) rest

  pub set_plain : (entry : Entry) (pairs : List (HashedKey × Entry)) → Agree test alone pairs → plain (set_value test pairs entry) ≡ set_value alone (plain pairs) entry
  set_plain entry [] agree = refl
  set_plain entry (pair ∷ pairs) agree =
      ap (λ b. plain (cond b ((pair.0, entry) ∷ pairs) (pair ∷ set_value test pairs entry))) agree.0 ∙ by (alone pair.0.key) (set_plain entry pairs agree.1)
    where
      by : (b : Bool) → plain (set_value test pairs entry) ≡ set_value alone (plain pairs) entry
          → plain (cond b ((pair.0, entry) ∷ pairs) (pair ∷ set_value test pairs entry))
          ≡ cond b ((pair.0.key, entry) ∷ plain pairs) (plain_pair pair ∷ set_value alone (plain pairs) entry)
      by true rest = refl
      by false rest = ap (λ ps. plain_pair pair ∷ ps) rest

  pub promoted_plain : (pairs : List (HashedKey × Entry)) → Agree test alone pairs → plain (lru.promoted test pairs) ≡ lru.promoted alone (plain pairs)
  promoted_plain pairs agree =
      by (lookup_entry test pairs)
      ∙ ap (λ found. option_map_or (λ p. p ∷ remove_entry alone (plain pairs)) found (plain pairs)) (lookup_entry_plain pairs agree)
    where
      by : (found : Option (HashedKey × Entry)) → plain (option_map_or (λ p. p ∷ remove_entry test pairs) found pairs)
          ≡ option_map_or (λ p. p ∷ remove_entry alone (plain pairs)) (option_map (λ p. plain_pair p) found) (plain pairs)
      by None = refl
      by (Some pair) = ap (λ ps. plain_pair pair ∷ ps) (remove_plain pairs agree)

  -- what a test finds after another value was written there is what it found
  pub set_agrees : (entry : Entry) (pairs : List (HashedKey × Entry)) → Agree test alone pairs → Agree test alone (set_value test pairs entry)
  set_agrees entry [] agree = tt
  set_agrees entry (pair ∷ pairs) agree = by (test pair.0) refl (set_agrees entry pairs agree.1)
    where
      by : (b : Bool) → test pair.0 ≡ b → Agree test alone (set_value test pairs entry) → Agree test alone (set_value test (pair ∷ pairs) entry)
      by true is rest = rw is (agree.0, agree.1)
      by false is rest = rw is (agree.0, rest)

pub put_plain : (cache : lru.LruCache HashedKey Entry) (wanted : HashedKey) (entry : Entry) → Agree (hashed_eq wanted) (key_eq wanted.key) cache.entries
    → plain (lru.put_entries hashed_eq cache wanted entry) ≡ lru.put_entries key_eq (lru.lru_cache (plain cache.entries) cache.cap) wanted.key entry
put_plain cache wanted entry agree =
    by (lookup_entry (hashed_eq wanted) cache.entries)
    ∙ ap (λ found. option_map_or (λ p. (p.0, entry) ∷ remove_entry (key_eq wanted.key) (plain cache.entries)) found ((wanted.key, entry) ∷ take (cache.cap - 1) (plain cache.entries)))
    (lookup_entry_plain (hashed_eq wanted) (key_eq wanted.key) cache.entries agree)
  where
    by : (found : Option (HashedKey × Entry))
        → plain (option_map_or (λ p. (p.0, entry) ∷ remove_entry (hashed_eq wanted) cache.entries) found ((wanted, entry) ∷ take (cache.cap - 1) cache.entries))
        ≡ option_map_or (λ p. (p.0, entry) ∷ remove_entry (key_eq wanted.key) (plain cache.entries)) (option_map (λ p. plain_pair p) found)
        ((wanted.key, entry) ∷ take (cache.cap - 1) (plain cache.entries))
    by None = ap (λ ps. (wanted.key, entry) ∷ ps) (sym (take-map (λ p. plain_pair p) (cache.cap - 1) cache.entries))
    by (Some pair) = ap (λ ps. (pair.0.key, entry) ∷ ps) (remove_plain (hashed_eq wanted) (key_eq wanted.key) cache.entries agree)

pub last_plain : (pairs : List (HashedKey × Entry)) → option_map (λ pair. plain_pair pair) (lru.last_entry pairs) ≡ lru.last_entry (plain pairs)
last_plain pairs =
    sym (slice_get-map (λ p. plain_pair p) pairs (length pairs - 1)) ∙ ap (λ n. slice_get (plain pairs) (n - 1)) (sym (length-map pairs (λ p. plain_pair p)))

pub fewer_plain : (pairs : List (HashedKey × Entry)) → plain (take (length pairs - 1) pairs) ≡ take (length (plain pairs) - 1) (plain pairs)
fewer_plain pairs =
    sym (take-map (λ p. plain_pair p) (length pairs - 1) pairs) ∙ ap (λ n. take (n - 1) (plain pairs)) (sym (length-map pairs (λ p. plain_pair p)))

pub long_plain : (pairs : List (HashedKey × Entry)) → length (plain pairs) ≡ length pairs
long_plain pairs = length-map pairs (λ p. plain_pair p)

lacks_plain : (seeded : Seeded) (held : HashedKey) (pairs : List (HashedKey × Entry)) → IsHashed seeded held → AreHashed seeded pairs
    → AllByRecursion (λ key. hashed_eq held key ≡ false) (keys_of pairs) → AllByRecursion (λ key. key_eq held.key key ≡ false) (keys_of (plain pairs))
lacks_plain seeded held [] own are all = tt
lacks_plain seeded held (pair ∷ pairs) own are all =
    (sym (same_keys seeded held pair.0 own are.0) ∙ all.0, lacks_plain seeded held pairs own are.1 all.1)

-- keys that differ with their hashes differ
pub distinct_plain : (seeded : Seeded) (pairs : List (HashedKey × Entry)) → AreHashed seeded pairs → IsDistinct hashed_eq (keys_of pairs)
    → IsDistinct key_eq (keys_of (plain pairs))
unfolding IsDistinct
distinct_plain seeded [] are distinct = tt
distinct_plain seeded (pair ∷ pairs) are distinct = (lacks_plain seeded pair.0 pairs are.0 are.1 distinct.0, distinct_plain seeded pairs are.1 distinct.1)

-- ---- hashes stay beside their keys

module _ (seeded : Seeded) (test : HashedKey → Bool) where
  pub hashed_found : (pairs : List (HashedKey × Entry)) (pair : HashedKey × Entry) → AreHashed seeded pairs → lookup_entry test pairs ≡ Some pair → IsHashed seeded pair.0
  hashed_found [] pair are is = absurd cc
  hashed_found (first ∷ pairs) pair are is = by (test first.0) refl (hashed_found pairs pair are.1)
    where
      by : (b : Bool) → test first.0 ≡ b → (lookup_entry test pairs ≡ Some pair → IsHashed seeded pair.0) → IsHashed seeded pair.0
      by true at rest = let same : first ≡ pair = cc (rw at at is) in subst (λ (p : HashedKey × Entry). IsHashed seeded p.0) same are.0
      by false at rest = rest (rw at at is)

  pub hashed_removed : (pairs : List (HashedKey × Entry)) → AreHashed seeded pairs → AreHashed seeded (remove_entry test pairs)
  hashed_removed [] are = tt
  hashed_removed (pair ∷ pairs) are = by (test pair.0) refl (hashed_removed pairs are.1)
    where
      by : (b : Bool) → test pair.0 ≡ b → AreHashed seeded (remove_entry test pairs) → AreHashed seeded (remove_entry test (pair ∷ pairs))
      by true is rest = rw is (are.1)
      by false is rest = rw is (are.0, rest)

  pub hashed_set : (entry : Entry) (pairs : List (HashedKey × Entry)) → AreHashed seeded pairs → AreHashed seeded (set_value test pairs entry)
  hashed_set entry [] are = tt
  hashed_set entry (pair ∷ pairs) are = by (test pair.0) refl (hashed_set entry pairs are.1)
    where
      by : (b : Bool) → test pair.0 ≡ b → AreHashed seeded (set_value test pairs entry) → AreHashed seeded (set_value test (pair ∷ pairs) entry)
      by true is rest = rw is (are.0, are.1)
      by false is rest = rw is (are.0, rest)

  pub hashed_promoted : (pairs : List (HashedKey × Entry)) → AreHashed seeded pairs → AreHashed seeded (lru.promoted test pairs)
  hashed_promoted pairs are = by (lookup_entry test pairs) refl
    where
      by : (found : Option (HashedKey × Entry)) → lookup_entry test pairs ≡ found → AreHashed seeded (option_map_or (λ pair. pair ∷ remove_entry test pairs) found pairs)
      by None is = are
      by (Some pair) is = (hashed_found pairs pair are is, hashed_removed pairs are)

pub hashed_taken : (seeded : Seeded) (n : ℕ) (pairs : List (HashedKey × Entry)) → AreHashed seeded pairs → AreHashed seeded (take n pairs)
hashed_taken seeded zero pairs are = tt
hashed_taken seeded (suc n) [] are = tt
hashed_taken seeded (suc n) (pair ∷ pairs) are = (are.0, hashed_taken seeded n pairs are.1)

pub hashed_put : (seeded : Seeded) (cache : lru.LruCache HashedKey Entry) (wanted : HashedKey) (entry : Entry) → IsHashed seeded wanted → AreHashed seeded cache.entries
    → AreHashed seeded (lru.put_entries hashed_eq cache wanted entry)
hashed_put seeded cache wanted entry own are = by (lookup_entry (hashed_eq wanted) cache.entries) refl
  where
    by : (found : Option (HashedKey × Entry)) → lookup_entry (hashed_eq wanted) cache.entries ≡ found
        → AreHashed seeded (option_map_or (λ p. (p.0, entry) ∷ remove_entry (hashed_eq wanted) cache.entries) found ((wanted, entry) ∷ take (cache.cap - 1) cache.entries))
    by None is = (own, hashed_taken seeded (cache.cap - 1) cache.entries are)
    by (Some pair) is =
        (hashed_found seeded (hashed_eq wanted) cache.entries pair are is, hashed_removed seeded (hashed_eq wanted) cache.entries are)

-- ---- a hash that may be another name's

module _ (test : HashedKey → Bool) where
  none_entry : (pairs : List (HashedKey × Entry)) → is_some (lookup test pairs) ≡ false → lookup_entry test pairs ≡ None
  none_entry [] none = refl
  none_entry (pair ∷ pairs) none = by (test pair.0) refl (none_entry pairs)
    where
      by : (b : Bool) → test pair.0 ≡ b → (is_some (lookup test pairs) ≡ false → lookup_entry test pairs ≡ None) → lookup_entry test (pair ∷ pairs) ≡ None
      by true at rest = let no : true ≡ false = rw at at none in absurd cc
      by false at rest = let others : lookup_entry test pairs ≡ None = rest (rw at at none) in rw at others

  -- a test that finds nothing moves nothing
  pub unmoved : (pairs : List (HashedKey × Entry)) → is_some (lookup test pairs) ≡ false → lru.promoted test pairs ≡ pairs
  unmoved pairs none = ap (λ found. option_map_or (λ p. p ∷ remove_entry test pairs) found pairs) (none_entry pairs none)

-- a hash that finds a key is that of its name
pub hint_found : (seeded : Seeded) (wanted : HashedKey) (pairs : List (HashedKey × Entry)) → AreHashed seeded pairs
    → is_some (lookup (hashed_eq wanted) pairs) ≡ true → IsHashed seeded wanted
hint_found seeded wanted [] are some = absurd cc
hint_found seeded wanted (pair ∷ pairs) are some = by (hashed_eq wanted pair.0) refl (hint_found seeded wanted pairs are.1)
  where
    by : (b : Bool) → hashed_eq wanted pair.0 ≡ b → (is_some (lookup (hashed_eq wanted) pairs) ≡ true → IsHashed seeded wanted) → IsHashed seeded wanted
    by true at rest = subst (IsHashed seeded) (sym (hashed_eq-same wanted pair.0 at)) are.0
    by false at rest = rest (rw at at some)

-- ---- what a map shows of itself

-- a map without the hashes
abbrev pub plain_map : lru.LruCache HashedKey Entry → lru.LruCache KeyOf Entry
plain_map cache = lru.lru_cache (plain cache.entries) cache.cap

abbrev pub shown : Seeded → lru.LruCache HashedKey Entry → KeyedOf
shown seeded cache = record { seeded = seeded; map = plain_map cache }

module _ (seeded : Seeded) (cache : lru.LruCache HashedKey Entry) (now : KeyedOf) (view : shown seeded cache ≡ now) (are : AreHashed seeded cache.entries)
    (hash : ℕ) (key : KeyOf) (own : hash ≡ name_hash now.seeded key.name) where
  abbrev wanted : HashedKey
  wanted = record { hash = hash; key = key }

  -- the hash that is told is that of the name
  pub its_hash : IsHashed seeded wanted
  its_hash = own ∙ ap (λ (k : KeyedOf). name_hash k.seeded key.name) (sym view)

  agrees : Agree (hashed_eq wanted) (key_eq key) cache.entries
  agrees = agreed seeded wanted cache.entries its_hash are

  -- what is found under the key
  pub shown_lookup : lookup (hashed_eq wanted) cache.entries ≡ lookup (key_eq key) now.map.entries
  shown_lookup = lookup_plain (hashed_eq wanted) (key_eq key) cache.entries agrees ∙ ap (λ (k : KeyedOf). lookup (key_eq key) k.map.entries) view

  pub shown_ahead : ahead_in (hashed_eq wanted) cache.entries ≡ ahead_in (key_eq key) now.map.entries
  shown_ahead = ahead_plain (hashed_eq wanted) (key_eq key) cache.entries agrees ∙ ap (λ (k : KeyedOf). ahead_in (key_eq key) k.map.entries) view

  pub shown_removed : (new : lru.LruCache HashedKey Entry) → new ≡ lru.lru_cache (remove_entry (hashed_eq wanted) cache.entries) cache.cap
      → plain_map new ≡ lru.lru_cache (remove_entry (key_eq key) now.map.entries) now.map.cap
  shown_removed new is =
      ap plain_map is
      ∙ (ap (λ ps. lru.lru_cache ps cache.cap) (remove_plain (hashed_eq wanted) (key_eq key) cache.entries agrees)
      ∙ ap (λ (k : KeyedOf). lru.lru_cache (remove_entry (key_eq key) k.map.entries) k.map.cap) view)

  pub shown_promoted : (new : lru.LruCache HashedKey Entry) → new ≡ lru.lru_cache (lru.promoted (hashed_eq wanted) cache.entries) cache.cap
      → plain_map new ≡ lru.lru_cache (lru.promoted (key_eq key) now.map.entries) now.map.cap
  shown_promoted new is =
      ap plain_map is
      ∙ (ap (λ ps. lru.lru_cache ps cache.cap) (promoted_plain (hashed_eq wanted) (key_eq key) cache.entries agrees)
      ∙ ap (λ (k : KeyedOf). lru.lru_cache (lru.promoted (key_eq key) k.map.entries) k.map.cap) view)

  pub shown_put : (entry : Entry) (new : lru.LruCache HashedKey Entry) → new ≡ lru.lru_cache (lru.put_entries hashed_eq cache wanted entry) cache.cap
      → plain_map new ≡ lru.lru_cache (lru.put_entries key_eq now.map key entry) now.map.cap
  shown_put entry new is =
      ap plain_map is
      ∙ (ap (λ ps. lru.lru_cache ps cache.cap) (put_plain cache wanted entry agrees)
      ∙ ap (λ (k : KeyedOf). lru.lru_cache (lru.put_entries key_eq k.map key entry) k.map.cap) view)

  -- what is found was written over, and comes to the front: that is a put
  pub shown_written : (entry : Entry) (new : lru.LruCache HashedKey Entry) → IsSome (lookup (key_eq key) now.map.entries)
      → new ≡ lru.lru_cache (lru.promoted (hashed_eq wanted) (set_value (hashed_eq wanted) cache.entries entry)) cache.cap
      → plain_map new ≡ lru.lru_cache (lru.put_entries key_eq now.map key entry) now.map.cap
  shown_written entry new some is =
      let held : IsSome (lookup (key_eq key) (plain cache.entries)) = subst (λ (k : KeyedOf). IsSome (lookup (key_eq key) k.map.entries)) (sym view) some in
      ap plain_map is
      ∙ (ap (λ ps. lru.lru_cache ps cache.cap)
      (promoted_plain (hashed_eq wanted) (key_eq key) (set_value (hashed_eq wanted) cache.entries entry) (set_agrees (hashed_eq wanted) (key_eq key) entry cache.entries agrees)
      ∙ (ap (lru.promoted (key_eq key)) (set_plain (hashed_eq wanted) (key_eq key) entry cache.entries agrees)
      ∙ written_put key entry (plain_map cache) held))
      ∙ ap (λ (k : KeyedOf). lru.lru_cache (lru.put_entries key_eq k.map key entry) k.map.cap) view)

pub valid_plain : (seeded : Seeded) (cache : lru.LruCache HashedKey Entry) → AreHashed seeded cache.entries → lru.IsValid hashed_eq cache → lru.IsValid key_eq (plain_map cache)
valid_plain seeded cache are valid = (distinct_plain seeded cache.entries are valid.0, omega (arith, long_plain cache.entries, valid.1), valid.2)

-- the pair in front, and the last one
pub front_plain : (pairs : List (HashedKey × Entry)) → option_map (λ pair. plain_pair pair) (slice_get pairs 0) ≡ slice_get (plain pairs) 0
front_plain pairs = sym (slice_get-map (λ p. plain_pair p) pairs 0)

-- what holds after either outcome
pub either : {X E : Type 0} (result : Result X E) (P A B : Type 0) → OnOk result A → OnErr result B → (A → P) → (B → P) → P
either (Ok x) P A B ok err from_ok from_err = from_ok ok
either (Err e) P A B ok err from_ok from_err = from_err err

-- what is found under a key has that key
pub found_own : (key : KeyOf) (pairs : List (KeyOf × Entry)) → AreOwn pairs → IfSome (lookup (key_eq key) pairs) (λ entry. entry.key ≡ key)
found_own key pairs own =
    subst (λ found. IfSome found (λ entry. entry.key ≡ key)) (sym (found_in_pairs key pairs own)) (by (entry_at key (entries_in pairs)) refl)
  where
    by : (found : Option Entry) → entry_at key (entries_in pairs) ≡ found → IfSome found (λ entry. entry.key ≡ key)
    by None is = tt
    by (Some entry) is = sym (entry_at-key key (entries_in pairs) entry is)
