-- SPDX-License-Identifier: MIT
-- The statuses that calls answer, and the checks of a call.
use Rattle.std.specs.Prelude.{◌≡◌, ℕ, ◌⊎◌, Bool, true, false, List, [], ◌∷◌, Result, Ok, Err}
use Rattle.rrc_cache.specs.declared.refusal.Refusal.{Refusal}
use Rattle.rrc_shelf.specs.declared.status.Status.{Status}
use Rattle.rrc_shelf.specs.declared.status.Status.TheVariants.{Memory, HistoryFull, MomentTooLarge, BadRules, BadSeed, BadLimits, BadName, BadMessage, BadChoice, BadType, BadData, WrongBody, WideAnswer, OtherSeed, NoQuestion}
use Rattle.rrc_cache.specs.declared.refusal.Refusal.TheVariants as Refusals

-- ---- statuses
-- The statuses that calls answer: 0 where a call was done, and else why it was not.

-- the number of a status, 3 to 15, 26 or 27
abbrev pub number_of : Status → ℕ
number_of Memory = 3
number_of HistoryFull = 4
number_of MomentTooLarge = 5
number_of BadRules = 6
number_of BadSeed = 7
number_of BadLimits = 8
number_of BadName = 9
number_of BadMessage = 10
number_of BadChoice = 11
number_of BadType = 12
number_of BadData = 13
number_of WrongBody = 14
number_of WideAnswer = 15
number_of OtherSeed = 26
number_of NoQuestion = 27

-- the status of a call that a shelf refused
abbrev pub refused_as : Refusal → Status
refused_as Refusals.HistoryFull = HistoryFull
refused_as Refusals.MomentTooLarge = MomentTooLarge
refused_as Refusals.Memory = Memory

-- what holds where a call was done
abbrev pub OnDone : ℕ → Type 0 → Type 0
OnDone status fact = status ≡ 0 → fact

-- what holds where a call was refused
abbrev pub OnRefused : ℕ → Type 0 → Type 0
OnRefused status fact = (status ≡ 0 → ⊥) → fact

-- what holds where a call answers that the buffer is too small
abbrev pub OnSmall : ℕ → Type 0 → Type 0
OnSmall status fact = status ≡ 16 → fact

-- what holds where a call tells nothing: it was refused, and not since the buffer is too small
abbrev pub OnUntold : ℕ → Type 0 → Type 0
OnUntold status fact = (status ≡ 0 → ⊥) → (status ≡ 16 → ⊥) → fact

-- what a call answers that tells a reply, by whether it fits the buffer
abbrev pub number_of_reply : Result Bool Status → ℕ
number_of_reply (Ok true) = 0
number_of_reply (Ok false) = 16
number_of_reply (Err status) = number_of status

-- what a call answers that only does something
abbrev pub number_of_call : {A : Type 0} → Result A Status → ℕ
number_of_call (Ok done) = 0
number_of_call (Err status) = number_of status

-- ---- checks
-- The checks of a call. A call makes its checks in a fixed order, and the first check that fails
-- refuses the call.

-- a check: the number that the call returns if the check fails, the fact that holds then, and the
-- fact that holds if the check passes
pub record Check : Type 1 where
  pub number : ℕ
  pub fails : Type 0
  pub passes : Type 0

-- the call is refused with this status unless the fact holds
abbrev pub unless : Status → Type 0 → Check
unless status fact = record { number = number_of status; fails = fact → ⊥; passes = fact }

-- the call allocates memory, and any allocation may fail
abbrev pub memory : Check
memory = record { number = number_of Memory; fails = Unit {0}; passes = Unit {0} }

-- the call is refused by the first check that fails, with the number of that check
abbrev pub Refuses : List Check → ℕ → Type 0
Refuses [] number = ⊥
Refuses (check ∷ behind) number = ((number ≡ check.number) × check.fails) ⊎ (check.passes × Refuses behind number)

-- all checks pass
abbrev pub Passes : List Check → Type 0
Passes [] = Unit {0}
Passes (check ∷ behind) = check.passes × Passes behind

-- the call is refused by a check, or all checks pass and the call goes on
abbrev pub Due : List Check → (ℕ → Type 0) → ℕ → Type 0
Due checks next number = Refuses checks number ⊎ (Passes checks × next number)

-- the call succeeds
abbrev pub IsDone : ℕ → Type 0
IsDone number = number ≡ 0

-- an allocation fails
abbrev pub OutOfMemory : ℕ → Type 0
OutOfMemory number = number ≡ number_of Memory

-- the call succeeds, or an allocation fails
abbrev pub IsDoneOrMemory : ℕ → Type 0
IsDoneOrMemory number = OutOfMemory number ⊎ IsDone number
