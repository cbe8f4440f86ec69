-- SPDX-License-Identifier: MIT
-- Reading a trace, piece by piece.
use Rattle.std.specs.Prelude.{◌≡◌, ◌<◌, ◌≤◌, ℕ, Bool, List, [], ◌∷◌, ◌++◌, length, ⊤, Option, Some, None, IfSome, Result, Ok, Err}
use Rattle.std.specs.Io.KnownBytes.{IsAtEnd}
use Rattle.rrc_text.specs.declared.fault.ReplayFault.{ReplayFault}
use Rattle.rrc_text.specs.declared.fault.ReplayFault.TheVariants.{BadLine, TooManyLines, Read, Write, Memory, Strayed, Spent, TooManyQuestions, NotLegal}
use Rattle.rrc_trace.specs.declared.read.trace.Ending.{Ending}
use Rattle.rrc_trace.specs.declared.read.trace.Ending.TheVariants.{Lf, Last, Endless}
use Rattle.rrc_trace.specs.declared.line.Line.{Line}
use Rattle.rrc_name.specs.Key.{KeyOf}
use Rattle.rrc_trace.specs.Questions.{fetched_by, with_question}
use Rattle.rrc_trace.specs.Trace.{TraceOf, IsFirstFault, MOST_QUESTIONS}
use Rattle.rrc_text.specs.Cuts.{IsCut, IsUnended}

-- octets in front of those ahead went behind those of a piece, and are cut behind an LF or have none
pub record MovesPart (ahead left piece longer : List ℕ) (ended : Bool) : Type 0 where
  pub part : List ℕ
  pub taken : ahead ≡ part ++ left
  pub moved : longer ≡ piece ++ part
  pub some : 0 < length part
  pub few : length longer ≤ 140001
  pub cut : IsCut ended part

-- how the piece ends: with its LF, with the trace, or nowhere as far as a line may go
abbrev pub IsEndOf : Ending → List ℕ → List ℕ → Type 0
IsEndOf Lf piece rest = (front : List ℕ) × IsUnended front × (piece ≡ front ++ 10 ∷ [])
IsEndOf Last piece rest = IsUnended piece × (rest ≡ [])
IsEndOf Endless piece rest = IsUnended piece × (140000 < length piece)

-- a piece was read, where the octets are known
abbrev pub ReadsPiece : Option (List ℕ) → Option (List ℕ) → List ℕ → Ending → Type 0
ReadsPiece None new piece ending = ⊤
ReadsPiece (Some octets) None piece ending = ⊥
ReadsPiece (Some octets) (Some rest) piece ending = (octets ≡ piece ++ rest) × IsEndOf ending piece rest

-- behind a piece that ends with the trace nothing is left
abbrev pub LeavesNothing : Option (List ℕ) → Ending → Type 0
LeavesNothing rest Lf = Unit {0}
LeavesNothing rest Last = IsAtEnd rest
LeavesNothing rest Endless = Unit {0}

-- a fault of a reader or of memory, and not of a text
abbrev pub IsOfReading : ReplayFault → Type 0
IsOfReading (BadLine number) = ⊥
IsOfReading TooManyLines = ⊥
IsOfReading Read = Unit {0}
IsOfReading Write = ⊥
IsOfReading Memory = Unit {0}
IsOfReading (Spent number) = ⊥
IsOfReading Strayed = ⊥
IsOfReading (TooManyQuestions line) = ⊥
IsOfReading NotLegal = ⊥

-- the lines are those of the octets that a reader gives, where these are known
abbrev pub IsTraceFrom : Option (List ℕ) → List Line → Type 0
IsTraceFrom read lines = IfSome read (λ octets. TraceOf octets lines)

-- a fault of the text is its first one, where its octets are known; no other faults come but those of a read and of memory
abbrev pub IsFaultOfTrace : Option (List ℕ) → ReplayFault → Type 0
IsFaultOfTrace read (BadLine number) = IfSome read (λ octets. IsFirstFault octets (BadLine number))
IsFaultOfTrace read TooManyLines = IfSome read (λ octets. IsFirstFault octets TooManyLines)
IsFaultOfTrace read Read = Unit {0}
IsFaultOfTrace read Write = ⊥
IsFaultOfTrace read Memory = Unit {0}
IsFaultOfTrace read (Spent number) = ⊥
IsFaultOfTrace read Strayed = ⊥
IsFaultOfTrace read (TooManyQuestions number) = IfSome read (λ octets. IsFirstFault octets (TooManyQuestions number))
IsFaultOfTrace read NotLegal = ⊥

-- the line is what its piece says, unless memory was refused, and its question stands among those before it, which stay few
abbrev pub GivesLine : ℕ → List KeyOf → List KeyOf → Result Line ReplayFault → Option Line → Type 0
GivesLine number before after (Ok line) said = (said ≡ Some line) × (after ≡ with_question before (fetched_by line)) × (length after ≤ MOST_QUESTIONS)
GivesLine number before after (Err (BadLine bad)) said = (bad ≡ number) × (said ≡ None)
GivesLine number before after (Err TooManyLines) said = ⊥
GivesLine number before after (Err Read) said = ⊥
GivesLine number before after (Err Write) said = ⊥
GivesLine number before after (Err Memory) said = Unit {0}
GivesLine number before after (Err (Spent bad)) said = ⊥
GivesLine number before after (Err Strayed) said = ⊥
GivesLine number before after (Err (TooManyQuestions bad)) said =
    (bad ≡ number) × ((line : Line) × (said ≡ Some line) × (MOST_QUESTIONS < length (with_question before (fetched_by line))))
GivesLine number before after (Err NotLegal) said = ⊥

-- the line of a piece came behind those before it, and its question among theirs, which stay few
abbrev pub AddsLine : ℕ → List KeyOf → List KeyOf → List Line → List Line → Option Line → Type 0
AddsLine number before after lines longer said = (line : Line) × (longer ≡ lines ++ line ∷ []) × GivesLine number before after (Ok line) said
