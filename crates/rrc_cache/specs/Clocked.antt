-- SPDX-License-Identifier: MIT
-- Entries that are kept beside the time of their last touch, which a clock that counts touches tells.
use Rattle.std.specs.Prelude.{ℕ, ◌+◌, ◌-◌, ◌<◌, ◌^◌, List, [], ◌∷◌, Bool, if◌then◌else◌, map}
use Rattle.lru.specs.LruCache.{LruCache}
use Rattle.rrc_history.specs.declared.snapshot.Entry.{Entry}
use Rattle.rrc_cache.specs.declared.clocked.Aged.{Aged}
use Rattle.rrc_cache.specs.declared.clocked.Stamped.{Stamped}
use Rattle.rrc_cache.specs.declared.hashed.HashedKey.{HashedKey}

-- an entry that is lent, without its age
abbrev pub aged_in : Aged → Entry
aged_in aged = aged.entry.now

-- pairs without the stamps
abbrev pub unstamped : List (HashedKey × Stamped) → List (HashedKey × Entry)
unstamped pairs = map (λ pair. (pair.0, pair.1.entry)) pairs

-- a map without the stamps
abbrev pub unstamped_map : LruCache HashedKey Stamped → LruCache HashedKey Entry
unstamped_map cache = record { entries = unstamped cache.entries; cap = cache.cap }

-- the pairs were touched before a time, each later than those behind it
abbrev pub FallBelow : ℕ → List (HashedKey × Stamped) → Type 0
FallBelow time [] = Unit {0}
FallBelow time (pair ∷ pairs) = (pair.1.touched < time) × FallBelow pair.1.touched pairs

-- so it is for as long as the clock goes
abbrev pub IsClocked : ℕ → List (HashedKey × Stamped) → Type 0
IsClocked clock pairs = clock < 2 ^ 64 - 1 → FallBelow clock pairs

-- how many pairs stand before the first whose key passes
abbrev pub ahead_in : {K V : Type 0} → (K → Bool) → List (K × V) → ℕ
ahead_in test [] = 0
ahead_in test (pair ∷ pairs) = if test pair.0 then 0 else ahead_in test pairs + 1
