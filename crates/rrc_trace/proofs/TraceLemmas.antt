-- SPDX-License-Identifier: MIT
-- A text is read piece by piece, and what is read of it is its trace, or its first fault.
use Rattle.std.proofs.Common.{◌≡◌, ℕ, ◌+◌, ◌<◌, ◌≤◌, List, [], ◌∷◌, ◌++◌, length, Option, Some, None, Result, Ok, Err, Bool, true, false, refl, sym, ap, subst, ◌∙◌, arith, nat_le, if◌then◌else◌, leb-true, leb-false, append_assoc, append-nil, length-append}
use Rattle.std.specs.List.{AllZip}
use Rattle.std.proofs.lemmas.Bool.Decides.{nat_tests}
use Rattle.rrc_name.specs.Key.{KeyOf}
use Rattle.rrc_trace.specs.declared.line.Line.{Line}
use Rattle.rrc_text.specs.declared.fault.ReplayFault.{ReplayFault}
use Rattle.rrc_text.specs.declared.fault.ReplayFault.TheVariants.{BadLine, TooManyLines, TooManyQuestions}
use Rattle.rrc_trace.specs.Lines.{line_of_piece}
use Rattle.rrc_trace.specs.Grammar.{IsLine}
use Rattle.rrc_trace.specs.Questions.{fetched_by, with_question, questions_of}
use Rattle.rrc_trace.specs.Trace.{pieces_of, MOST_LINES, MOST_QUESTIONS, HaveFewQuestions, TraceOf, BeginsWithLines, IsFirstFault, bad_line, too_many_questions, too_many_lines}
use Rattle.rrc_trace.proofs.LineLemmas.{is_line, no_line}
use Rattle.rrc_trace.proofs.QuestionLemmas.{questions-push, few-in_front}

abbrev pub with_line : Line → Result (List Line) ReplayFault → Result (List Line) ReplayFault
with_line line (Ok lines) = Ok (line ∷ lines)
with_line line (Err fault) = Err fault

-- the lines of pieces, the first of which has this number and stands behind these questions, or their first fault
abbrev pub lines_from : ℕ → List KeyOf → List (List ℕ) → Result (List Line) ReplayFault
lines_from number questions [] = Ok []
lines_from number questions (piece ∷ pieces) =
    if nat_le MOST_LINES number then Err TooManyLines
    else elim (line_of_piece piece) [
      | Some line ↦ if nat_le (length (with_question questions (fetched_by line))) MOST_QUESTIONS
          then with_line line (lines_from (number + 1) (with_question questions (fetched_by line)) pieces)
          else Err (TooManyQuestions number)
      | None ↦ Err (BadLine number)
    ]

-- the lines of a text, or its first fault
abbrev pub trace_of : List ℕ → Result (List Line) ReplayFault
trace_of octets = lines_from 0 [] (pieces_of octets)

-- one piece is read: there are too many, or it says nothing, or one question too many, or a line
pub read-many : (number : ℕ) (questions : List KeyOf) (piece : List ℕ) (pieces : List (List ℕ)) → MOST_LINES ≤ number
    → lines_from number questions (piece ∷ pieces) ≡ Err TooManyLines
read-many number questions piece pieces many =
    let over : nat_le MOST_LINES number ≡ true = grind (arith, nat_tests, many) in rw over refl

pub read-bad : (number : ℕ) (questions : List KeyOf) (piece : List ℕ) (pieces : List (List ℕ)) → number < MOST_LINES → line_of_piece piece ≡ None
    → lines_from number questions (piece ∷ pieces) ≡ Err (BadLine number)
read-bad number questions piece pieces few said =
    let room : nat_le MOST_LINES number ≡ false = grind (arith, nat_tests, few) in rw (room, said) refl

pub read-crowded : (number : ℕ) (questions : List KeyOf) (piece : List ℕ) (pieces : List (List ℕ)) (line : Line) → number < MOST_LINES → line_of_piece piece ≡ Some line
    → MOST_QUESTIONS < length (with_question questions (fetched_by line)) → lines_from number questions (piece ∷ pieces) ≡ Err (TooManyQuestions number)
read-crowded number questions piece pieces line few said crowded =
    let room : nat_le MOST_LINES number ≡ false = grind (arith, nat_tests, few) in
    let over : nat_le (length (with_question questions (fetched_by line))) MOST_QUESTIONS ≡ false = grind (arith, nat_tests, crowded) in
    rw (room, said, over) refl

pub read-more : (number : ℕ) (questions : List KeyOf) (piece : List ℕ) (pieces : List (List ℕ)) (line : Line) → number < MOST_LINES → line_of_piece piece ≡ Some line
    → length (with_question questions (fetched_by line)) ≤ MOST_QUESTIONS
    → lines_from number questions (piece ∷ pieces) ≡ with_line line (lines_from (number + 1) (with_question questions (fetched_by line)) pieces)
read-more number questions piece pieces line few said fits =
    let room : nat_le MOST_LINES number ≡ false = grind (arith, nat_tests, few) in
    let within : nat_le (length (with_question questions (fetched_by line))) MOST_QUESTIONS ≡ true = grind (arith, nat_tests, fits) in
    rw (room, said, within) refl

abbrev pub lines_behind : List Line → Result (List Line) ReplayFault → Result (List Line) ReplayFault
lines_behind front (Ok lines) = Ok (front ++ lines)
lines_behind front (Err fault) = Err fault

with_line-behind : (front : List Line) (line : Line) (said : Result (List Line) ReplayFault)
    → lines_behind front (with_line line said) ≡ lines_behind (front ++ line ∷ []) said
with_line-behind front line (Ok lines) = ap (λ (l : List Line). all l) (sym (append_assoc front (line ∷ []) lines))
  where
    all : List Line → Result (List Line) ReplayFault
    all l = Ok l
with_line-behind front line (Err fault) = refl

-- one piece behind lines is read
pub one_piece : (front : List Line) (number : ℕ) (piece : List ℕ) (pieces : List (List ℕ)) (line : Line) → number < MOST_LINES → line_of_piece piece ≡ Some line
    → length (with_question (questions_of front) (fetched_by line)) ≤ MOST_QUESTIONS
    → lines_behind front (lines_from number (questions_of front) (piece ∷ pieces))
    ≡ lines_behind (front ++ line ∷ []) (lines_from (number + 1) (questions_of (front ++ line ∷ [])) pieces)
one_piece front number piece pieces line few is fits =
    ap (lines_behind front) (read-more number (questions_of front) piece pieces line few is fits)
    ∙ (with_line-behind front line (lines_from (number + 1) (with_question (questions_of front) (fetched_by line)) pieces)
    ∙ ap (λ (questions : List KeyOf). lines_behind (front ++ line ∷ []) (lines_from (number + 1) questions pieces)) (sym (questions-push [] front line)))

-- lines in front of what is read
behind_line : (line : Line) (lines : List Line) (said : Result (List Line) ReplayFault) → with_line line (lines_behind lines said) ≡ lines_behind (line ∷ lines) said
behind_line line lines (Ok others) = refl
behind_line line lines (Err fault) = refl

behind_none : (said : Result (List Line) ReplayFault) → lines_behind [] said ≡ said
behind_none (Ok lines) = refl
behind_none (Err fault) = refl

-- what is read of pieces behind lines
abbrev rest_of : List Line → List (List ℕ) → Result (List Line) ReplayFault
rest_of lines pieces = lines_from (length lines) (questions_of lines) pieces

lines-push : (front : List (List ℕ)) (lines : List Line) (piece : List ℕ) (line : Line) → AllZip IsLine front lines → IsLine piece line
    → AllZip IsLine (front ++ piece ∷ []) (lines ++ line ∷ [])
lines-push [] [] piece line are is = (is, tt)
lines-push [] (first ∷ lines) piece line are is = absurd are
lines-push (first ∷ front) [] piece line are is = absurd are
lines-push (first ∷ front) (other ∷ lines) piece line are is = (are.0, lines-push front lines piece line are.1 is)

-- what is read of a text holds of it
abbrev Tells : List ℕ → Result (List Line) ReplayFault → Type 0
Tells octets (Ok lines) = TraceOf octets lines
Tells octets (Err fault) = IsFirstFault octets fault

module _ (octets : List ℕ) where
  -- one more piece is a line
  begins-more : (lines : List Line) (piece : List ℕ) (pieces : List (List ℕ)) (line : Line) → BeginsWithLines octets lines (piece ∷ pieces) → IsLine piece line
      → length (with_question (questions_of lines) (fetched_by line)) ≤ MOST_QUESTIONS → BeginsWithLines octets (lines ++ line ∷ []) pieces
  begins-more lines piece pieces line begins is few = record {
    front = begins.front ++ piece ∷ [];
    cut = begins.cut ∙ sym (append_assoc begins.front (piece ∷ []) pieces);
    are_lines = lines-push begins.front lines piece line begins.are_lines is;
    questions = subst (λ (questions : List KeyOf). length questions ≤ MOST_QUESTIONS) (sym (questions-push [] lines line)) few;
  }

  rest-more : (lines : List Line) (piece : List ℕ) (pieces : List (List ℕ)) (line : Line) → length lines < MOST_LINES → line_of_piece piece ≡ Some line
      → length (with_question (questions_of lines) (fetched_by line)) ≤ MOST_QUESTIONS
      → lines_behind lines (rest_of lines (piece ∷ pieces)) ≡ lines_behind (lines ++ line ∷ []) (rest_of (lines ++ line ∷ []) pieces)
  rest-more lines piece pieces line below is few =
      one_piece lines (length lines) piece pieces line below is few
      ∙ ap (λ (n : ℕ). lines_behind (lines ++ line ∷ []) (lines_from n (questions_of (lines ++ line ∷ [])) pieces)) (sym (length-append lines (line ∷ [])))

  tells : (pieces : List (List ℕ)) (lines : List Line) → BeginsWithLines octets lines pieces → length lines ≤ MOST_LINES
      → Tells octets (lines_behind lines (rest_of lines pieces))
  tells [] lines begins few =
      subst (TraceOf octets) (sym (append-nil lines)) (record {
        are_lines = subst (λ (pieces : List (List ℕ)). AllZip IsLine pieces lines) (sym (begins.cut ∙ append-nil begins.front)) begins.are_lines;
        few = few;
        questions = begins.questions;
      })
  tells (piece ∷ pieces) lines begins few = by (nat_le MOST_LINES (length lines)) refl (line_of_piece piece) refl (tells pieces)
    where
      by : (many : Bool) → nat_le MOST_LINES (length lines) ≡ many → (said : Option Line) → line_of_piece piece ≡ said
          → ((more : List Line) → BeginsWithLines octets more pieces → length more ≤ MOST_LINES → Tells octets (lines_behind more (rest_of more pieces)))
          → Tells octets (lines_behind lines (rest_of lines (piece ∷ pieces)))
      by true more said at later =
          let many : MOST_LINES ≤ length lines = leb-true MOST_LINES (length lines) more in
          subst (λ (found : Result (List Line) ReplayFault). Tells octets (lines_behind lines found)) (sym (read-many (length lines) (questions_of lines) piece pieces many))
          (too_many_lines begins (omega (arith, many, few)))
      by false more None at later =
          let below : length lines < MOST_LINES = leb-false MOST_LINES (length lines) more in
          subst (λ (found : Result (List Line) ReplayFault). Tells octets (lines_behind lines found)) (sym (read-bad (length lines) (questions_of lines) piece pieces below at))
          (bad_line begins below (λ line is. let never : None ≡ Some line = sym at ∙ (is_line piece line).1 is in absurd cc))
      by false more (Some line) at later =
          counted line at (leb-false MOST_LINES (length lines) more) (nat_le (length (with_question (questions_of lines) (fetched_by line))) MOST_QUESTIONS) refl (later (lines ++ line ∷ []))
        where
          counted : (line : Line) → line_of_piece piece ≡ Some line → length lines < MOST_LINES
              → (within : Bool) → nat_le (length (with_question (questions_of lines) (fetched_by line))) MOST_QUESTIONS ≡ within
              → (BeginsWithLines octets (lines ++ line ∷ []) pieces → length (lines ++ line ∷ []) ≤ MOST_LINES → Tells octets (lines_behind (lines ++ line ∷ []) (rest_of (lines ++ line ∷ []) pieces)))
              → Tells octets (lines_behind lines (rest_of lines (piece ∷ pieces)))
          counted line at below true is later =
              let enough : length (with_question (questions_of lines) (fetched_by line)) ≤ MOST_QUESTIONS = leb-true _ MOST_QUESTIONS is in
              subst (Tells octets) (sym (rest-more lines piece pieces line below at enough))
              (later (begins-more lines piece pieces line begins ((is_line piece line).0 at) enough) (omega (arith, below, length-append lines (line ∷ []))))
          counted line at below false is later =
              let crowded : MOST_QUESTIONS < length (with_question (questions_of lines) (fetched_by line)) = leb-false _ MOST_QUESTIONS is in
              subst (λ (found : Result (List Line) ReplayFault). Tells octets (lines_behind lines found)) (sym (read-crowded (length lines) (questions_of lines) piece pieces line below at crowded))
              (too_many_questions begins below ((is_line piece line).0 at)
              (subst (λ (questions : List KeyOf). MOST_QUESTIONS < length questions) (sym (questions-push [] lines line)) crowded))

  trace_of-tells : Tells octets (trace_of octets)
  trace_of-tells = subst (Tells octets) (behind_none (trace_of octets)) (tells (pieces_of octets) [] (record { front = []; cut = refl; are_lines = tt; questions = omega arith }) (omega arith))

  pub trace_of-says : (lines : List Line) → trace_of octets ≡ Ok lines → TraceOf octets lines
  trace_of-says lines is = subst (Tells octets) is trace_of-tells

  -- whatever is read of a text other than lines is its first fault
  pub trace_of-fault : (fault : ReplayFault) → trace_of octets ≡ Err fault → IsFirstFault octets fault
  trace_of-fault fault is = subst (Tells octets) is trace_of-tells

-- pieces that are lines are read as these
lines-read : (front : List (List ℕ)) (more lines : List Line) (pieces : List (List ℕ)) → AllZip IsLine front more → length lines + length more ≤ MOST_LINES
    → HaveFewQuestions (lines ++ more) → rest_of lines (front ++ pieces) ≡ lines_behind more (rest_of (lines ++ more) pieces)
lines-read [] [] lines pieces are few questions =
    sym (behind_none (rest_of lines pieces)) ∙ ap (λ (l : List Line). lines_behind [] (rest_of l pieces)) (sym (append-nil lines))
lines-read [] (line ∷ more) lines pieces are few questions = absurd are
lines-read (piece ∷ front) [] lines pieces are few questions = absurd are
lines-read (piece ∷ front) (line ∷ more) lines pieces are few questions =
    let whole : (lines ++ line ∷ []) ++ more ≡ lines ++ line ∷ more = append_assoc lines (line ∷ []) more in
    let fits : HaveFewQuestions ((lines ++ line ∷ []) ++ more) = subst HaveFewQuestions (sym whole) questions in
    let enough : length (with_question (questions_of lines) (fetched_by line)) ≤ MOST_QUESTIONS =
    subst (λ (q : List KeyOf). length q ≤ MOST_QUESTIONS) (questions-push [] lines line) (few-in_front MOST_QUESTIONS (lines ++ line ∷ []) more fits) in
    let size : length (lines ++ line ∷ []) ≡ length lines + 1 = length-append lines (line ∷ []) in
    read-more (length lines) (questions_of lines) piece (front ++ pieces) line (omega (arith, few)) ((is_line piece line).1 are.0) enough
    ∙ (ap (λ (n : ℕ). with_line line (lines_from n (with_question (questions_of lines) (fetched_by line)) (front ++ pieces))) (sym size)
    ∙ (ap (λ (q : List KeyOf). with_line line (lines_from (length (lines ++ line ∷ [])) q (front ++ pieces))) (sym (questions-push [] lines line))
    ∙ (ap (with_line line) (lines-read front more (lines ++ line ∷ []) pieces are.1 (omega (arith, few, size)) fits)
    ∙ (behind_line line more (rest_of ((lines ++ line ∷ []) ++ more) pieces)
    ∙ ap (λ (l : List Line). lines_behind (line ∷ more) (rest_of l pieces)) whole))))

module _ (octets : List ℕ) where
  begun-read : (lines : List Line) (behind : List (List ℕ)) → BeginsWithLines octets lines behind → length lines ≤ MOST_LINES
      → trace_of octets ≡ lines_behind lines (rest_of lines behind)
  begun-read lines behind begins few =
      ap (lines_from 0 []) begins.cut ∙ lines-read begins.front lines [] behind begins.are_lines (omega (arith, few)) begins.questions

  -- a trace is read as its lines
  pub trace-read : (lines : List Line) → TraceOf octets lines → trace_of octets ≡ Ok lines
  trace-read lines trace =
      begun-read lines [] (record { front = pieces_of octets; cut = sym (append-nil (pieces_of octets)); are_lines = trace.are_lines; questions = trace.questions }) trace.few
      ∙ ap (λ (l : List Line). all l) (append-nil lines)
    where
      all : List Line → Result (List Line) ReplayFault
      all l = Ok l

  -- and any other text as its first fault
  pub fault-read : (fault : ReplayFault) → IsFirstFault octets fault → trace_of octets ≡ Err fault
  fault-read fault (bad_line {lines = lines} {piece = piece} {behind = behind} begins below never) =
      begun-read lines (piece ∷ behind) begins (omega (arith, below))
      ∙ ap (lines_behind lines) (read-bad (length lines) (questions_of lines) piece behind below (no_line piece never))
  fault-read fault (too_many_questions {lines = lines} {piece = piece} {behind = behind} {line = line} begins below is more) =
      let crowded : MOST_QUESTIONS < length (with_question (questions_of lines) (fetched_by line)) =
      subst (λ (questions : List KeyOf). MOST_QUESTIONS < length questions) (questions-push [] lines line) more in
      begun-read lines (piece ∷ behind) begins (omega (arith, below))
      ∙ ap (lines_behind lines) (read-crowded (length lines) (questions_of lines) piece behind line below ((is_line piece line).1 is) crowded)
  fault-read fault (too_many_lines {lines = lines} {piece = piece} {behind = behind} begins many) =
      begun-read lines (piece ∷ behind) begins (omega (arith, many))
      ∙ ap (lines_behind lines) (read-many (length lines) (questions_of lines) piece behind (omega (arith, many)))
