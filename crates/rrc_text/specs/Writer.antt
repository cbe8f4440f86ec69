-- SPDX-License-Identifier: MIT
-- What a writer holds after a part of a text was written.
use Rattle.std.specs.Prelude.{ℕ, List, take, Option}
use Rattle.std.specs.Io.KnownBytes.{Appends, Keeps}
use Rattle.rrc_text.specs.declared.fault.ReplayFault.{ReplayFault}
use Rattle.rrc_text.specs.declared.fault.ReplayFault.TheVariants.{BadLine, TooManyLines, Read, Write, Strayed, Memory, Spent, TooManyQuestions, NotLegal}

-- known octets grow by a beginning of some octets
abbrev pub AppendsFront : Option (List ℕ) → Option (List ℕ) → List ℕ → Type 0
AppendsFront old new octets = (count : ℕ) × Appends old new (take count octets)

-- where a write failed a beginning of a text went out, and where memory was refused nothing; no other fault comes
abbrev pub LeavesText : Option (List ℕ) → Option (List ℕ) → List ℕ → ReplayFault → Type 0
LeavesText old new text (BadLine number) = ⊥
LeavesText old new text TooManyLines = ⊥
LeavesText old new text Read = ⊥
LeavesText old new text Write = AppendsFront old new text
LeavesText old new text Strayed = ⊥
LeavesText old new text Memory = Keeps old new
LeavesText old new text (Spent number) = ⊥
LeavesText old new text (TooManyQuestions number) = ⊥
LeavesText old new text NotLegal = ⊥
