-- SPDX-License-Identifier: MIT
-- Entries that are kept by key, each key beside the hash of its name.
use Rattle.std.specs.Prelude.{◌≡◌, ℕ, ◌&&◌, Bool, List, map, nat_eq, bit_xor}
use Rattle.std.specs.List.{AllByRecursion}
use Rattle.std.specs.Hash as fed
use Rattle.std.specs.Hash.{HashWrites}
use Rattle.lru.specs.LruCache.{LruCache}
use Rattle.rrc_name.specs.Key.{KeyOf, block_of, key_eq}
use Rattle.rrc_name.specs.KeyRef.{key_of}
use Rattle.rrc_history.specs.declared.snapshot.Entry.{Entry}
use Rattle.rrc_cache.specs.declared.clocked.Stamped.{Stamped}
use Rattle.rrc_cache.specs.declared.hashed.HashedKey.{HashedKey}
use Rattle.rrc_cache.specs.declared.hashed.HashedRef.{HashedRef}
use Rattle.rrc_cache.specs.declared.seeded.Seeded.{Seeded}
use Rattle.rrc_cache.specs.Seeds.{keyed_hash}

-- the hash of a name under the seed
abbrev pub name_hash : Seeded → List ℕ → ℕ
name_hash seeded name = keyed_hash seeded.seed name

-- the key that is looked up, with its hash
abbrev pub hashed_of : HashedRef → HashedKey
hashed_of wanted = record { hash = wanted.hash; key = key_of wanted.key }

-- whether keys are the same, and their hashes too
abbrev pub hashed_eq : HashedKey → HashedKey → Bool
hashed_eq wanted held = nat_eq wanted.hash held.hash && key_eq wanted.key held.key

-- what a map hashes a key by: the hash of its name, with the block of its slot
abbrev pub hashed_by : HashedKey → HashWrites
hashed_by key = fed.u64 (bit_xor key.hash (block_of key.key.slot))

-- a pair without the hash
abbrev pub plain_pair : HashedKey × Entry → KeyOf × Entry
plain_pair pair = (pair.0.key, pair.1)

-- pairs without their hashes
abbrev pub plain : List (HashedKey × Entry) → List (KeyOf × Entry)
plain pairs = map (λ pair. plain_pair pair) pairs

-- the entries of a map, in its order
abbrev pub hashed_entries : List (HashedKey × Stamped) → List Entry
hashed_entries pairs = map (λ pair. pair.1.entry) pairs

-- the hash of a key is that of its name
abbrev pub IsHashed : Seeded → HashedKey → Type 0
IsHashed seeded key = key.hash ≡ name_hash seeded key.key.name

-- each key is beside the hash of its name
abbrev pub AreHashed : Seeded → List (HashedKey × Entry) → Type 0
AreHashed seeded pairs = AllByRecursion (λ pair. IsHashed seeded pair.0) pairs

-- the seed that names are hashed behind, and a map of the entries by their keys
pub record KeyedOf : Type 0 where
  pub seeded : Seeded
  pub map : LruCache KeyOf Entry
