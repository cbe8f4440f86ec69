-- SPDX-License-Identifier: MIT
-- Octets, as a counter of 64 bits has them.
use Rattle.std.specs.Prelude.{◌≡◌, ℕ, ◌^◌, ◌%◌, Option, Some, None, IfSome}
use Rattle.rrc_history.specs.declared.snapshot.Entry.{Entry}
use Rattle.rrc_history.specs.Octets.{entry_octets}

-- the octets of an entry, modulo 2^64
abbrev pub counted_octets : Entry → ℕ
counted_octets entry = entry_octets entry % 2 ^ 64

-- the octets of what a key held, if anything
abbrev pub held_octets : Option Entry → ℕ
held_octets None = 0
held_octets (Some entry) = entry_octets entry

-- a count of octets, if there is one, is of so many
abbrev pub IsCounted : Option ℕ → ℕ → Type 0
IsCounted octets number = IfSome octets (λ count. count ≡ number % 2 ^ 64)
