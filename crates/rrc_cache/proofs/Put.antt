-- SPDX-License-Identifier: MIT
-- An entry comes in front, in the place of the one that its key had.
use Rattle.std.proofs.Common.{◌≡◌, ℕ, Bool, ◌∷◌, ◌^◌, ◌<◌, ◌||◌, length, List, Option, None, true, false, refl, ap, sym, ◌∙◌, arith}
use Rattle.std.specs.List.{IsDistinct}
use Rattle.std.specs.Map.{keys_of, lookup}
use Rattle.lru.specs.LruCache.{LruCache, lru_cache, put_entries}
use Rattle.rrc_name.specs.Key.{KeyOf, key_eq}
use Rattle.rrc_history.specs.declared.snapshot.Entry.{Entry}
use Rattle.rrc_history.specs.Entries.{goes, staying}
use Rattle.rrc_history.specs.Past.{entry_at}
use Rattle.rrc_cache.specs.declared.expiry_queue.Expiry.{Expiry}
use Rattle.rrc_cache.specs.ExpiryQueue.{AreQueued, ExpiryQueueOf, expires_by, is_by}
use Rattle.rrc_cache.specs.FullExpiry.{full_expiry_of}
use Rattle.rrc_cache.specs.Pairs.{entries_in, AreOwn, IsEntryMap}
use Rattle.rrc_cache.proofs.Paired.{apart_in, found_in_pairs, put_in, own_put}
use Rattle.rrc_cache.proofs.Timed.{is_by-own, put_queued}

-- the entries with one in front
abbrev pub with_entry : Entry → List Entry → List Entry
with_entry entry entries = entry ∷ staying (goes entry.key None) entries

-- what a key holds
pub held : (key own_key : KeyOf) (pairs : List (KeyOf × Entry)) (found : Option Entry) → AreOwn pairs → key ≡ own_key → found ≡ lookup (key_eq key) pairs
    → entry_at own_key (entries_in pairs) ≡ found
held key own_key pairs found own same is = sym (ap (λ k. entry_at k (entries_in pairs)) same) ∙ (sym (found_in_pairs key pairs own) ∙ sym is)

module _ (map new : LruCache KeyOf Entry) (key : KeyOf) (entry : Entry) (own_map : IsEntryMap map) (distinct : IsDistinct key_eq (keys_of map.entries))
    (small : length map.entries < 2 ^ 63) (same : key ≡ entry.key) (is : new ≡ lru_cache (put_entries key_eq map key entry) map.cap) where
  written : new ≡ lru_cache (put_entries key_eq map entry.key entry) map.cap
  written = is ∙ ap (λ k. lru_cache (put_entries key_eq map k entry) map.cap) same

  pub after : entries_in new.entries ≡ with_entry entry (entries_in map.entries)
  after =
      let room : length map.entries < map.cap = omega (arith, own_map.wide, small) in
      ap (λ (now : LruCache KeyOf Entry). entries_in now.entries) written
      ∙ put_in map.cap entry map.entries own_map.own (apart_in map.entries own_map.own distinct) room

  pub put_map : IsEntryMap new
  put_map = record {
    own = rw written (own_put map.cap entry map.entries own_map.own);
    wide = rw written own_map.wide;
  }

-- an expiry that is added queues the entry, and what had another has it still
module _ (stale : ℕ) (entries : List Entry) (queue added : ExpiryQueueOf) (entry : Entry) (are : AreQueued stale entries queue) (expiry : Expiry)
    (adds : (key : KeyOf) (time : ℕ) → (is_by key time expiry || expires_by queue key time) ≡ true → expires_by added key time ≡ true) where
  also : (a b : Bool) → b ≡ true → (a || b) ≡ true
  also true b h = refl
  also false b h = h

  pub added_queued : expiry.time ≡ full_expiry_of stale entry → expiry.key ≡ entry.key → AreQueued stale (with_entry entry entries) added
  added_queued timed own =
      let expires : ℕ = full_expiry_of stale entry in
      let here : is_by entry.key expires expiry ≡ true =
      ap (λ k. is_by entry.key expires (record { time = expiry.time; key = k })) own
      ∙ (ap (λ t. is_by entry.key expires (record { time = t; key = entry.key })) timed ∙ is_by-own entry.key expires) in
      put_queued stale entries queue are entry added (λ key time is. adds key time (also (is_by key time expiry) (expires_by queue key time) is))
      (adds entry.key expires (ap (λ b. b || expires_by queue entry.key expires) here))
