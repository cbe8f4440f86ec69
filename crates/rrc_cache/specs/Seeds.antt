-- SPDX-License-Identifier: MIT
-- How octets are hashed under a seed, and what is known of a name by its hash.
use Rattle.std.specs.Prelude.{◌≡◌, ℕ, ◌/◌, ◌%◌, ◌^◌, List}
use Rattle.std.specs.Hash.DefaultHasher as sip
use Rattle.std.specs.Int.{w128, from_le_bytes}
use Rattle.rrc_cache.specs.declared.name_hash.NameHash.{NameHash}

-- the number that the 16 octets of a seed are, the lowest first
abbrev pub number_of_seed : List ℕ → ℕ
number_of_seed seed = from_le_bytes w128 seed

-- the hash of octets: SipHash-1-3 under two keys, the lower and the upper 64 bits of a seed
abbrev pub keyed_hash : List ℕ → List ℕ → ℕ
keyed_hash seed octets = sip.finish (sip.write (sip.with_keys (number_of_seed seed % 2 ^ 64) (number_of_seed seed / 2 ^ 64)) octets)

-- the hash is that of the name, under the seed beside it
abbrev pub IsHashOf : NameHash → List ℕ → Type 0
IsHashOf hash name = hash.hash ≡ keyed_hash hash.seed name
