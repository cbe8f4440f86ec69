-- SPDX-License-Identifier: MIT
-- A trace: the pieces of a text are the lines of the grammar, or one of them is its first fault.
use Rattle.std.specs.Prelude.{◌≡◌, ◌<◌, ◌≤◌, ◌⊎◌, ℕ, List, [], ◌∷◌, ◌++◌, length, ◌==◌, if◌then◌else◌}
use Rattle.std.specs.List.{AllZip}
use Rattle.rrc_trace.specs.declared.line.Line.{Line}
use Rattle.rrc_text.specs.declared.fault.ReplayFault.{ReplayFault}
use Rattle.rrc_text.specs.declared.fault.ReplayFault.TheVariants.{BadLine, TooManyLines, TooManyQuestions}
use Rattle.rrc_trace.specs.Grammar.{IsLine}
use Rattle.rrc_trace.specs.Questions.{questions_of}

-- pieces, with one more octet in front of the first
abbrev pub with_octet : ℕ → List (List ℕ) → List (List ℕ)
with_octet octet [] = (octet ∷ []) ∷ []
with_octet octet (piece ∷ pieces) = (octet ∷ piece) ∷ pieces

-- a text, cut behind each LF
abbrev pub pieces_of : List ℕ → List (List ℕ)
pieces_of [] = []
pieces_of (octet ∷ octets) = if octet == 10 then (octet ∷ []) ∷ pieces_of octets else with_octet octet (pieces_of octets)

-- a trace has a million lines at most
abbrev pub MOST_LINES : ℕ
MOST_LINES = 1000000

-- the lines of a trace fetch 4,096 questions at most
abbrev pub MOST_QUESTIONS : ℕ
MOST_QUESTIONS = 4096

-- lines fetch no more questions than those of a trace may
abbrev pub HaveFewQuestions : List Line → Type 0
HaveFewQuestions lines = length (questions_of lines) ≤ MOST_QUESTIONS

-- the text is a trace of these lines: each of its pieces is one, by the grammar
pub record TraceOf (octets : List ℕ) (lines : List Line) : Type 0 where
  pub are_lines : AllZip IsLine (pieces_of octets) lines
  pub few : length lines ≤ MOST_LINES
  pub questions : HaveFewQuestions lines

-- a text begins with these lines, which fetch no more questions than they may, and these pieces
-- of it follow
pub record BeginsWithLines (octets : List ℕ) (lines : List Line) (behind : List (List ℕ)) : Type 0 where
  pub front : List (List ℕ)
  pub cut : pieces_of octets ≡ front ++ behind
  pub are_lines : AllZip IsLine front lines
  pub questions : HaveFewQuestions lines

-- the first fault of a text, behind lines that have none: its next piece is no line, or is a line
-- that fetches one question too many, or is one piece more than a trace may have
pub data IsFirstFault (octets : List ℕ) : ReplayFault → Type 0 where
  bad_line : {lines : List Line} {piece : List ℕ} {behind : List (List ℕ)}
      → BeginsWithLines octets lines (piece ∷ behind) → length lines < MOST_LINES
      → ((line : Line) → IsLine piece line → ⊥)
      → IsFirstFault octets (BadLine (length lines))
  too_many_questions : {lines : List Line} {piece : List ℕ} {behind : List (List ℕ)} {line : Line}
      → BeginsWithLines octets lines (piece ∷ behind) → length lines < MOST_LINES
      → IsLine piece line → MOST_QUESTIONS < length (questions_of (lines ++ line ∷ []))
      → IsFirstFault octets (TooManyQuestions (length lines))
  too_many_lines : {lines : List Line} {piece : List ℕ} {behind : List (List ℕ)}
      → BeginsWithLines octets lines (piece ∷ behind) → length lines ≡ MOST_LINES
      → IsFirstFault octets TooManyLines

-- every text is the text of one list of lines, or it has one first fault, and never both
pub record HasTraceOrFault (octets : List ℕ) : Type 0 where
  pub either : ((lines : List Line) × TraceOf octets lines) ⊎ ((fault : ReplayFault) × IsFirstFault octets fault)
  pub one_trace : (lines others : List Line) → TraceOf octets lines → TraceOf octets others → lines ≡ others
  pub one_fault : (fault other : ReplayFault) → IsFirstFault octets fault → IsFirstFault octets other → fault ≡ other
  pub not_both : (lines : List Line) (fault : ReplayFault) → TraceOf octets lines → IsFirstFault octets fault → ⊥

abbrev pub OneTraceOrFault : Type 0
OneTraceOrFault = (octets : List ℕ) → HasTraceOrFault octets
