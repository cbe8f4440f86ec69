-- SPDX-License-Identifier: MIT
-- The numbers of faults.
use Rattle.std.specs.Prelude.{ℕ}
use Rattle.rrc_text.specs.declared.fault.ReplayFault.{ReplayFault}
use Rattle.rrc_text.specs.declared.fault.ReplayFault.TheVariants.{BadLine, TooManyLines, Read, Write, Memory, Strayed, Spent, TooManyQuestions, NotLegal}

-- the number by which the documents know a fault
abbrev pub fault_number : ReplayFault → ℕ
fault_number (BadLine line) = 1
fault_number TooManyLines = 2
fault_number Read = 3
fault_number Write = 4
fault_number Strayed = 5
fault_number Memory = 6
fault_number (Spent line) = 7
fault_number (TooManyQuestions line) = 8
fault_number NotLegal = 9
