-- SPDX-License-Identifier: MIT
-- What may stop a replay.
use Rattle.std.specs.Prelude.{ℕ, ◌≤◌}
use Rattle.rrc_text.specs.declared.fault.ReplayFault.{ReplayFault}
use Rattle.rrc_text.specs.declared.fault.ReplayFault.TheVariants.{BadLine, TooManyLines, Read, Write, Strayed, Memory, Spent, TooManyQuestions, NotLegal}

-- a fault of workers, of memory or threads, or of a part whose numbers are spent, told with a line or with the number of lines; no
-- fault of a text, of a read or of a write
abbrev pub IsOfReplay : ℕ → ReplayFault → Type 0
IsOfReplay lines (BadLine number) = ⊥
IsOfReplay lines TooManyLines = ⊥
IsOfReplay lines Read = ⊥
IsOfReplay lines Write = ⊥
IsOfReplay lines Strayed = Unit {0}
IsOfReplay lines Memory = Unit {0}
IsOfReplay lines (Spent number) = number ≤ lines
IsOfReplay lines (TooManyQuestions number) = ⊥
IsOfReplay lines NotLegal = ⊥
