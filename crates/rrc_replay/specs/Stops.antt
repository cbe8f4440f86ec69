-- SPDX-License-Identifier: MIT
-- Where the workers of a replay stopped, and what is told of it.
use Rattle.std.specs.Prelude.{◌≡◌, ◌⊎◌, ℕ, List, [], ◌∷◌, Option, Some, None, nat_lt, cond, if◌then◌else◌, option_map}
use Rattle.rrc_text.specs.declared.fault.ReplayFault.{ReplayFault}
use Rattle.rrc_text.specs.declared.fault.ReplayFault.TheVariants.{Memory, Spent, Strayed}
use Rattle.rrc_report.specs.declared.calls.Refused.{Refused}
use Rattle.rrc_report.specs.declared.calls.Refused.TheVariants as refused
use Rattle.rrc_replay.specs.declared.worker.Stop.{Stop}
use Rattle.rrc_replay.specs.declared.worker.Worked.{Worked}

-- of two stops, where there are two, the one at the lower line
abbrev pub lower : Option Stop → Option Stop → Option Stop
lower None other = other
lower (Some stop) None = Some stop
lower (Some stop) (Some other) = Some (cond (nat_lt other.line stop.line) other stop)

-- of the workers that stopped, where the one at the lowest line did
abbrev pub lowest : List Worked → Option Stop
lowest [] = None
lowest (worked ∷ others) = lower worked.stop (lowest others)

-- a line at which numbers were spent is told with its number; at one that is none of so many lines a worker strayed
abbrev pub fault_at : ℕ → ℕ → Refused → ReplayFault
fault_at lines line refused.Spent = if nat_lt line lines then Spent line else Strayed
fault_at lines line refused.Memory = Memory

abbrev pub fault_of : ℕ → Stop → ReplayFault
fault_of lines stop = fault_at lines stop.line stop.why

-- what is told of workers, if one of them stopped: why the one at the lowest line did
abbrev pub first_fault : ℕ → List Worked → Option ReplayFault
first_fault lines worked = option_map (fault_of lines) (lowest worked)

-- that is told of them, or memory was refused behind them
abbrev pub TellsFirstFault : ℕ → List Worked → ReplayFault → Type 0
TellsFirstFault lines worked fault = (fault ≡ Memory) ⊎ (first_fault lines worked ≡ Some fault)
