-- SPDX-License-Identifier: MIT
-- Entries that are kept by key.
use Rattle.std.specs.Prelude.{◌≡◌, ℕ, ◌-◌, ◌^◌, ◌≤◌, List, map}
use Rattle.std.specs.List.{AllByRecursion}
use Rattle.lru.specs.LruCache.{LruCache}
use Rattle.rrc_name.specs.Key.{KeyOf}
use Rattle.rrc_history.specs.declared.snapshot.Entry.{Entry}
use Rattle.rrc_cache.specs.declared.seeded.Seeded.{Seeded}
use Rattle.rrc_cache.specs.ExpiryQueue.{AreQueued, ExpiryQueueOf}

-- the entries of a map, in its order
abbrev pub entries_in : List (KeyOf × Entry) → List Entry
entries_in pairs = map (λ pair. pair.1) pairs

-- each entry is kept under its own key
abbrev pub AreOwn : List (KeyOf × Entry) → Type 0
AreOwn pairs = AllByRecursion (λ pair. pair.1.key ≡ pair.0) pairs

-- the seed that names are hashed behind, and the entries, the key touched last first
pub record EntriesOf : Type 0 where
  pub seeded : Seeded
  pub entries : List Entry

-- each entry is kept under its own key, and none goes by itself
pub record IsEntryMap (map : LruCache KeyOf Entry) : Type 0 where
  pub own : AreOwn map.entries
  pub wide : map.cap ≡ 2 ^ 64 - 1

-- the seed that names are hashed behind, for how many seconds a set may be stale, and the entries,
-- the key touched last first
pub record StoreOf : Type 0 where
  pub seeded : Seeded
  pub stale : ℕ
  pub entries : List Entry

-- each entry has an expiry in the queue that is no later than its own
pub record IsStore (stale : ℕ) (entries : List Entry) (queue : ExpiryQueueOf) : Type 0 where
  pub limit : stale ≤ 604800
  pub queued : AreQueued stale entries queue
