-- SPDX-License-Identifier: MIT
-- The parts of a cache: all keys of a name lie in one.
use Rattle.std.specs.Prelude.{ℕ, ◌+◌, ◌*◌, ◌%◌, ◌^◌, List, fold}
use Rattle.rrc_name.specs.Wire.{folded}

-- a hash so far, and one more octet
abbrev pub hash_more : ℕ → ℕ → ℕ
hash_more hash octet = (hash * 1000003 + octet) % 2 ^ 32

-- the hash of some octets
abbrev pub hash_of : List ℕ → ℕ
hash_of octets = fold hash_more 0 octets

-- the part of a name, below a number of parts, whatever its case (ours)
abbrev pub part_of : List ℕ → ℕ → ℕ
part_of name parts = hash_of (folded name) % parts
