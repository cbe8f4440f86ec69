-- SPDX-License-Identifier: MIT
-- Pieces that are read one after another, as a loop does.
use Rattle.std.proofs.Common.{◌≡◌, ℕ, suc, ◌+◌, ◌-◌, ◌<◌, ◌≤◌, List, ◌++◌, Result, Ok, Err, refl, arith}
use Rattle.rrc_wire.specs.declared.fault.WireFault.{WireFault}
use Rattle.rrc_wire.specs.Reading.{times}

abbrev pub Reader : Type 0 → Type 0
Reader A = ℕ → Result (List A × ℕ) WireFault

pub times-more : {A : Type 0} (reader : Reader A) (count i : ℕ) (before : List A) (place : ℕ) (piece : List A × ℕ) → i < count → reader place ≡ Ok piece
    → times reader (count - i) before place ≡ times reader (count - (i + 1)) (before ++ piece.0) piece.1
times-more reader count i before place piece lt h =
    let left : count - i ≡ suc (count - (i + 1)) = omega arith in rw (left, times, h) refl

pub times-Err : {A : Type 0} (reader : Reader A) (count i : ℕ) (before : List A) (place : ℕ) (fault : WireFault) → i < count → reader place ≡ Err fault
    → times reader (count - i) before place ≡ Err fault
times-Err reader count i before place fault lt h =
    let left : count - i ≡ suc (count - (i + 1)) = omega arith in rw (left, times, h) refl

pub times-done : {A : Type 0} (reader : Reader A) (count i : ℕ) (before : List A) (place : ℕ) → count ≤ i → times reader (count - i) before place ≡ Ok (before, place)
times-done reader count i before place le =
    let left : count - i ≡ 0 = omega arith in rw (left, times) refl
