-- SPDX-License-Identifier: MIT
-- Reading goes on behind what was read, and ends at the first fault.
use Rattle.std.specs.Prelude.{◌≡◌, ◌⊎◌, ℕ, zero, suc, ◌+◌, ◌*◌, List, ◌++◌, length, slice_index, nat_le, if◌then◌else◌, Result, Ok, Err}
use Rattle.rrc_wire.specs.declared.fault.WireFault.{WireFault}
use Rattle.rrc_wire.specs.declared.fault.WireFault.TheVariants.{Short, Memory}

infixl 10 ◌>>=◌
-- what is read next, behind what was read
abbrev pub ◌>>=◌ : {A B : Type 0} → Result A WireFault → (A → Result B WireFault) → Result B WireFault
(Ok found) >>= next = next found
(Err fault) >>= next = Err fault

-- what a reader gave, seen by view, is what reading gives, unless memory was refused
abbrev pub Gives : {X Y : Type 0} → (X → Y) → Result X WireFault → Result Y WireFault → Type 0
Gives view (Ok found) read = read ≡ Ok (view found)
Gives view (Err fault) read = (fault ≡ Memory) ⊎ (read ≡ Err fault)

-- what a reader that takes no memory gave, seen by view, is what reading gives
abbrev pub Agrees : {X Y : Type 0} → (X → Y) → Result X WireFault → Result Y WireFault → Type 0
Agrees view (Ok found) read = read ≡ Ok (view found)
Agrees view (Err fault) read = read ≡ Err fault

-- a field of 16 bits, the high octet first (RFC 1035 2.3.2)
abbrev pub word_at : List ℕ → ℕ → ℕ
word_at message place = 256 * slice_index message place + slice_index message (place + 1)

-- a field of 32 bits
abbrev pub long_at : List ℕ → ℕ → ℕ
long_at message place = 65536 * word_at message place + word_at message (place + 2)

-- the place behind some octets, which may not pass the message's end
abbrev pub within : List ℕ → ℕ → ℕ → Result ℕ WireFault
within message place octets = if nat_le (place + octets) (length message) then Ok (place + octets) else Err Short

-- so many pieces one after another, behind those before them; each begins where the last one ends
abbrev pub times : {A : Type 0} → (ℕ → Result (List A × ℕ) WireFault) → ℕ → List A → ℕ → Result (List A × ℕ) WireFault
times reader zero before place = Ok (before, place)
times reader (suc n) before place = reader place >>= λ piece. times reader n (before ++ piece.0) piece.1
