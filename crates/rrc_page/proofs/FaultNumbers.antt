-- SPDX-License-Identifier: MIT
-- The numbers of faults are 1 to 9.
use Rattle.std.proofs.Common.{◌≤◌, arith}
use Rattle.rrc_text.specs.Faults.{fault_number}
use Rattle.rrc_text.specs.declared.fault.ReplayFault.{ReplayFault}
use Rattle.rrc_text.specs.declared.fault.ReplayFault.TheVariants.{BadLine, TooManyLines, Read, Write, Strayed, Memory, Spent, TooManyQuestions, NotLegal}

pub least : (fault : ReplayFault) → 1 ≤ fault_number fault
least (BadLine number) = omega arith
least TooManyLines = omega arith
least Read = omega arith
least Write = omega arith
least Strayed = omega arith
least Memory = omega arith
least (Spent number) = omega arith
least (TooManyQuestions number) = omega arith
least NotLegal = omega arith

pub most : (fault : ReplayFault) → fault_number fault ≤ 9
most (BadLine number) = omega arith
most TooManyLines = omega arith
most Read = omega arith
most Write = omega arith
most Strayed = omega arith
most Memory = omega arith
most (Spent number) = omega arith
most (TooManyQuestions number) = omega arith
most NotLegal = omega arith
