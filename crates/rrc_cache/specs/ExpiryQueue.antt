-- SPDX-License-Identifier: MIT
-- The queue of full expiry: when entries may be fully expired.
use Rattle.std.specs.Prelude.{◌≡◌, ℕ, List, Bool, false, true, ◌&&◌, ◌||◌, nat_le, Option, Some, None, map, filter, if◌then◌else◌}
use Rattle.std.specs.declared.cmp.Ordering.{Ordering}
use Rattle.std.specs.Ordering.{nat_cmp}
use Rattle.std.specs.List.{list_any}
use Rattle.rrc_name.specs.Key.{KeyOf, key_eq}
use Rattle.rrc_history.specs.declared.snapshot.Entry.{Entry}
use Rattle.rrc_history.specs.Past.{entry_at}
use Rattle.rrc_history.specs.Right.{is_swept}
use Rattle.rrc_cache.specs.Counted.{counted_octets}
use Rattle.rrc_cache.specs.declared.expiry_queue.Expiry.{Expiry}
use Rattle.rrc_cache.specs.declared.replaced.Replaced.{Replaced}
use Rattle.rrc_cache.specs.FullExpiry.{full_expiry_of}

-- the expiry of an entry
abbrev pub expiry_of : ℕ → Entry → Expiry
expiry_of stale entry = record { time = full_expiry_of stale entry; key = entry.key }

-- the expiries of entries
abbrev pub expiries_of : ℕ → List Entry → List Expiry
expiries_of stale entries = map (λ entry. expiry_of stale entry) entries

-- by time, the other way round: the greatest comes first
abbrev pub expiry_order : Expiry → Expiry → Ordering
expiry_order a b = nat_cmp b.time a.time

-- whether expiries are kept, as they are from the first sweep on, and the soonest of those that came
-- before; those that wait for their time and those whose time came, and for how many more there is
-- room
pub record ExpiryQueueOf : Type 0 where
  pub kept : Bool
  pub soonest : ℕ
  pub waiting : List Expiry
  pub due : List Expiry
  pub room : ℕ

-- whether it is one of the key, at this time or before
abbrev pub is_by : KeyOf → ℕ → Expiry → Bool
is_by key time expiry = key_eq key expiry.key && nat_le expiry.time time

-- whether the key has an expiry at this time or before; where none are kept, from the soonest on any
-- key may have one
abbrev pub expires_by : ExpiryQueueOf → KeyOf → ℕ → Bool
expires_by queue key time =
    if queue.kept then list_any (is_by key time) queue.waiting || list_any (is_by key time) queue.due else nat_le queue.soonest time

-- the same expiries, wherever they stand
abbrev pub HasSameExpiries : ExpiryQueueOf → ExpiryQueueOf → Type 0
HasSameExpiries new old = (key : KeyOf) (time : ℕ) → expires_by new key time ≡ expires_by old key time

-- what is kept under a key expires no sooner than an expiry of its key comes
abbrev pub IsQueued : ℕ → ExpiryQueueOf → Option Entry → Type 0
IsQueued stale queue None = Unit {0}
IsQueued stale queue (Some entry) = expires_by queue entry.key (full_expiry_of stale entry) ≡ true

-- each entry has an expiry that is no later than its own
abbrev pub AreQueued : ℕ → List Entry → ExpiryQueueOf → Type 0
AreQueued stale entries queue = (key : KeyOf) → IsQueued stale queue (entry_at key entries)

-- whether what a key held, if anything, is fully expired at a time
abbrev pub is_expired_by : ℕ → ℕ → Option Entry → Bool
is_expired_by stale time None = false
is_expired_by stale time (Some entry) = nat_le (full_expiry_of stale entry) time

-- of an entry that another replaces: its number, from when on it is fully expired, and its octets
-- modulo 2^64, if these are counted
abbrev pub replaced_of : ℕ → Bool → Entry → Replaced
replaced_of stale counts entry = record { number = entry.number; expires = full_expiry_of stale entry; octets = if counts then Some (counted_octets entry) else None }

-- the keys of expiries under which something fully expired is kept
abbrev pub expired_among : ℕ → ℕ → List Entry → List Expiry → List KeyOf
expired_among stale moment entries expiries = map (λ expiry. expiry.key) (filter (λ expiry. is_swept stale (entry_at expiry.key entries) moment) expiries)
