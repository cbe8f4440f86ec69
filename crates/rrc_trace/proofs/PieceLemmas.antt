-- SPDX-License-Identifier: MIT
-- A trace is read piece by piece.
use Rattle.std.proofs.Common.{◌≡◌, ◌≢◌, ℕ, suc, ◌+◌, ◌-◌, ◌<◌, ◌≤◌, List, [], ◌∷◌, ◌++◌, length, take, get_or, Option, Some, None, Result, Ok, Err, true, false, refl, sym, ap, subst, ◌∙◌, arith, append_assoc, length-append, length-take, nat_le, ◌==◌, Bool, cond, slice_index, zero}
use Rattle.std.specs.Prelude.{⊤}
use Rattle.std.specs.List.{All}
use Rattle.std.specs.Io.KnownBytes.{IsAtEnd, Keeps, prepend_known}
use Rattle.std.proofs.lemmas.Bool.Decides.{nat_tests}
use Rattle.std.proofs.lemmas.List.{append-nil}
use Rattle.std.proofs.lemmas.List.Elements.{All-nil, All-push}
use Rattle.rrc_trace.specs.declared.line.Line.{Line}
use Rattle.rrc_text.specs.declared.fault.ReplayFault.{ReplayFault}
use Rattle.rrc_text.specs.declared.fault.ReplayFault.TheVariants.{BadLine, TooManyLines, TooManyQuestions}
use Rattle.rrc_trace.specs.Lines.{before_last, line_ended, line_of_piece}
use Rattle.rrc_name.specs.Key.{KeyOf}
use Rattle.rrc_trace.specs.Questions.{fetched_by, with_question, questions_of}
use Rattle.rrc_trace.specs.Trace.{with_octet, pieces_of, MOST_LINES, MOST_QUESTIONS, HaveFewQuestions}
use Rattle.rrc_trace.proofs.QuestionLemmas.{questions-push}
use Rattle.rrc_trace.proofs.TraceLemmas.{lines_from, trace_of, lines_behind, one_piece, read-many, read-bad, read-crowded, trace_of-says, trace_of-fault}
use Rattle.rrc_trace.specs.declared.read.trace.Ending.TheVariants.{Lf, Last, Endless}
use Rattle.rrc_trace.specs.Lawful.{IsLawful, AreLawful}
use Rattle.rrc_trace.proofs.LawfulLemmas.{says_lawful}
use Rattle.rrc_text.specs.declared.fault.ReplayFault.TheVariants as faults
use Rattle.rrc_text.specs.Cuts.{IsUnended}
use Rattle.rrc_trace.specs.Pieces.{ReadsPiece, IsOfReading, GivesLine, IsTraceFrom, IsFaultOfTrace}

-- what is left to read says, behind the lines so far, what the whole trace says
abbrev pub IsReadTo : Option (List ℕ) → Option (List ℕ) → List Line → ℕ → Type 0
IsReadTo None now lines number = ⊤
IsReadTo (Some all) None lines number = ⊥
IsReadTo (Some all) (Some rest) lines number = lines_behind lines (lines_from number (questions_of lines) (pieces_of rest)) ≡ trace_of all

pieces_of-ended : (front rest : List ℕ) → IsUnended front → pieces_of (front ++ 10 ∷ rest) ≡ (front ++ 10 ∷ []) ∷ pieces_of rest
pieces_of-ended [] rest unended = refl
pieces_of-ended (octet ∷ front) rest unended =
    let no : (octet == 10) ≡ false = grind (arith, nat_tests, unended.0) in
    rw no (ap (with_octet octet) (pieces_of-ended front rest unended.1))

pieces_of-last : (octet : ℕ) (octets : List ℕ) → IsUnended (octet ∷ octets) → pieces_of (octet ∷ octets) ≡ (octet ∷ octets) ∷ []
pieces_of-last octet [] unended =
    let no : (octet == 10) ≡ false = grind (arith, nat_tests, unended.0) in rw no refl
pieces_of-last octet (next ∷ octets) unended =
    let no : (octet == 10) ≡ false = grind (arith, nat_tests, unended.0) in
    rw no (ap (with_octet octet) (pieces_of-last next octets unended.1))

abbrev wrapped : List Line → Result (List Line) ReplayFault
wrapped lines = Ok lines

-- more pieces than a trace may have lines
too_many : (front : List Line) (number octet : ℕ) (octets : List ℕ) → MOST_LINES ≤ number
    → lines_behind front (lines_from number (questions_of front) (pieces_of (octet ∷ octets))) ≡ Err TooManyLines
too_many front number octet octets many = by (octet == 10) refl (pieces_of octets) refl
  where
    over : (piece : List ℕ) (pieces : List (List ℕ)) → lines_behind front (lines_from number (questions_of front) (piece ∷ pieces)) ≡ Err TooManyLines
    over piece pieces = ap (lines_behind front) (read-many number (questions_of front) piece pieces many)

    by : (lf : Bool) → (octet == 10) ≡ lf → (pieces : List (List ℕ)) → pieces_of octets ≡ pieces
        → lines_behind front (lines_from number (questions_of front) (pieces_of (octet ∷ octets))) ≡ Err TooManyLines
    by true is pieces are = rw is (over (octet ∷ []) (pieces_of octets))
    by false is [] are = rw (is, are) (over (octet ∷ []) [])
    by false is (piece ∷ pieces) are = rw (is, are) (over (octet ∷ piece) pieces)

bad_piece : (front : List Line) (number : ℕ) (piece : List ℕ) (pieces : List (List ℕ)) → number < 1000000 → line_of_piece piece ≡ None
    → lines_behind front (lines_from number (questions_of front) (piece ∷ pieces)) ≡ Err (BadLine number)
bad_piece front number piece pieces few is = ap (lines_behind front) (read-bad number (questions_of front) piece pieces few is)

crowded_piece : (front : List Line) (number : ℕ) (piece : List ℕ) (pieces : List (List ℕ)) (line : Line) → number < 1000000 → line_of_piece piece ≡ Some line
    → MOST_QUESTIONS < length (with_question (questions_of front) (fetched_by line))
    → lines_behind front (lines_from number (questions_of front) (piece ∷ pieces)) ≡ Err (TooManyQuestions number)
crowded_piece front number piece pieces line few is crowded = ap (lines_behind front) (read-crowded number (questions_of front) piece pieces line few is crowded)

abbrev err_at : ℕ → Result (List Line) ReplayFault
err_at number = Err (BadLine number)

abbrev crowded_at : ℕ → Result (List Line) ReplayFault
crowded_at number = Err (TooManyQuestions number)

-- a whole piece was read
abbrev pub ReadsCut : Option (List ℕ) → Option (List ℕ) → List ℕ → Type 0
ReadsCut None new piece = ⊤
ReadsCut (Some octets) None piece = ⊥
ReadsCut (Some octets) (Some rest) piece = pieces_of octets ≡ piece ∷ pieces_of rest

pub reads_lf : (old new : Option (List ℕ)) (piece : List ℕ) → ReadsPiece old new piece Lf → ReadsCut old new piece
reads_lf None new piece read = tt
reads_lf (Some octets) None piece read = absurd read
reads_lf (Some octets) (Some rest) piece read =
    let front = read.1.0 in
    let whole : octets ≡ front ++ 10 ∷ rest = read.0 ∙ ap (λ p. p ++ rest) read.1.2 ∙ append_assoc front (10 ∷ []) rest in
    ap pieces_of whole ∙ pieces_of-ended front rest read.1.1 ∙ ap (λ p. p ∷ pieces_of rest) (sym read.1.2)

pub reads_last : (old new : Option (List ℕ)) (piece : List ℕ) → ReadsPiece old new piece Last → piece ≢ [] → ReadsCut old new piece
reads_last None new piece read some = tt
reads_last (Some octets) None piece read some = absurd read
reads_last (Some octets) (Some rest) [] read some = absurd (some refl)
reads_last (Some octets) (Some rest) (octet ∷ piece) read some =
    let whole : octets ≡ octet ∷ piece = read.0 ∙ ap (λ r. (octet ∷ piece) ++ r) read.1.1 ∙ append-nil (octet ∷ piece) in
    ap pieces_of whole ∙ pieces_of-last octet piece read.1.0 ∙ ap (λ ps. (octet ∷ piece) ∷ ps) (sym (ap pieces_of read.1.1))

pub IsReadTo-none : (all : Option (List ℕ)) → IsReadTo all (prepend_known [] all) [] 0
IsReadTo-none None = tt
IsReadTo-none (Some all) =
    elim (trace_of all) as (λ said. lines_behind [] said ≡ said) [ Ok lines ↦ refl | Err fault ↦ refl ]

pub IsReadTo-more : (all old new : Option (List ℕ)) (lines : List Line) (number : ℕ) (piece : List ℕ) (line : Line) → number < 1000000
    → IsReadTo all old lines number → ReadsCut old new piece → line_of_piece piece ≡ Some line → length (with_question (questions_of lines) (fetched_by line)) ≤ MOST_QUESTIONS
    → IsReadTo all new (lines ++ line ∷ []) (number + 1)
IsReadTo-more None old new lines number piece line few read cut is fits = tt
IsReadTo-more (Some all) None new lines number piece line few read cut is fits = absurd read
IsReadTo-more (Some all) (Some octets) None lines number piece line few read cut is fits = absurd cut
IsReadTo-more (Some all) (Some octets) (Some rest) lines number piece line few read cut is fits =
    sym (one_piece lines number piece (pieces_of rest) line few is fits) ∙ sym (ap (λ ps. lines_behind lines (lines_from number (questions_of lines) ps)) cut) ∙ read

module _ (all octets : List ℕ) (lines : List Line) (number : ℕ) (piece : List ℕ) (pieces : List (List ℕ)) (few : number < 1000000)
    (read : lines_behind lines (lines_from number (questions_of lines) (pieces_of octets)) ≡ trace_of all) (cut : pieces_of octets ≡ piece ∷ pieces) where
  next : lines_behind lines (lines_from number (questions_of lines) (piece ∷ pieces)) ≡ trace_of all
  next = sym (ap (λ ps. lines_behind lines (lines_from number (questions_of lines) ps)) cut) ∙ read

  stopped : line_of_piece piece ≡ None → trace_of all ≡ Err (BadLine number)
  stopped is = sym next ∙ bad_piece lines number piece pieces few is

  crowded : (line : Line) → line_of_piece piece ≡ Some line → MOST_QUESTIONS < length (with_question (questions_of lines) (fetched_by line))
      → trace_of all ≡ Err (TooManyQuestions number)
  crowded line is more = sym next ∙ crowded_piece lines number piece pieces line few is more

stops_at : (fault : ReplayFault) (all old new : Option (List ℕ)) (lines : List Line) (number : ℕ) (piece : List ℕ) (after : List KeyOf) → number < MOST_LINES
    → IsReadTo all old lines number → ReadsCut old new piece → GivesLine number (questions_of lines) after (Err fault) (line_of_piece piece) → IsFaultOfTrace all fault
stops_at (faults.BadLine bad) None old new lines number piece after few read cut said = tt
stops_at (faults.BadLine bad) (Some all) None new lines number piece after few read cut said = absurd read
stops_at (faults.BadLine bad) (Some all) (Some octets) None lines number piece after few read cut said = absurd cut
stops_at (faults.BadLine bad) (Some all) (Some octets) (Some rest) lines number piece after few read cut said =
    trace_of-fault all (BadLine bad) (stopped all octets lines number piece (pieces_of rest) few read cut said.1 ∙ ap (λ (n : ℕ). err_at n) (sym said.0))
stops_at faults.TooManyLines all old new lines number piece after few read cut said = absurd said
stops_at faults.Read all old new lines number piece after few read cut said = tt
stops_at faults.Write all old new lines number piece after few read cut said = absurd said
stops_at faults.Memory all old new lines number piece after few read cut said = tt
stops_at (faults.Spent bad) all old new lines number piece after few read cut said = absurd said
stops_at faults.Strayed all old new lines number piece after few read cut said = absurd said
stops_at (faults.TooManyQuestions bad) None old new lines number piece after few read cut said = tt
stops_at (faults.TooManyQuestions bad) (Some all) None new lines number piece after few read cut said = absurd read
stops_at (faults.TooManyQuestions bad) (Some all) (Some octets) None lines number piece after few read cut said = absurd cut
stops_at (faults.TooManyQuestions bad) (Some all) (Some octets) (Some rest) lines number piece after few read cut said =
    trace_of-fault all (TooManyQuestions bad) (crowded all octets lines number piece (pieces_of rest) few read cut said.1.0 said.1.1 said.1.2 ∙ ap (λ (n : ℕ). crowded_at n) (sym said.0))
stops_at faults.NotLegal all old new lines number piece after few read cut said = absurd said

pub fails : (fault : ReplayFault) (all : Option (List ℕ)) → IsOfReading fault → IsFaultOfTrace all fault
fails (faults.BadLine bad) all of_reading = absurd of_reading
fails faults.TooManyLines all of_reading = absurd of_reading
fails faults.Read all of_reading = tt
fails faults.Write all of_reading = absurd of_reading
fails faults.Memory all of_reading = tt
fails (faults.Spent bad) all of_reading = absurd of_reading
fails faults.Strayed all of_reading = absurd of_reading
fails (faults.TooManyQuestions line) all of_reading = absurd of_reading
fails faults.NotLegal all of_reading = absurd of_reading

-- nothing is left to read
pub ends : (all now : Option (List ℕ)) (lines : List Line) (number : ℕ) → IsReadTo all now lines number → IsAtEnd now → number ≤ MOST_LINES → IsTraceFrom all lines
ends None now lines number read end few = tt
ends (Some all) None lines number read end few = absurd read
ends (Some all) (Some rest) lines number read end few =
    trace_of-says all lines (sym read ∙ ap (λ r. lines_behind lines (lines_from number (questions_of lines) (pieces_of r))) end ∙ ap wrapped (append-nil lines))

-- octets are left behind the last line that a trace may have
pub goes_on : (all old known : Option (List ℕ)) (ahead : List ℕ) (lines : List Line) (number : ℕ) → MOST_LINES ≤ number → IsReadTo all old lines number
    → Keeps old (prepend_known ahead known) → 0 < length ahead → IsFaultOfTrace all faults.TooManyLines
goes_on None old known ahead lines number many read kept some = tt
goes_on (Some all) None known ahead lines number many read kept some = absurd read
goes_on (Some all) (Some octets) None ahead lines number many read kept some = absurd kept
goes_on (Some all) (Some octets) (Some rest) [] lines number many read kept some = absurd (omega arith)
goes_on (Some all) (Some octets) (Some rest) (octet ∷ ahead) lines number many read kept some =
    trace_of-fault all TooManyLines
    (sym read ∙ ap (λ o. lines_behind lines (lines_from number (questions_of lines) (pieces_of o))) (sym kept) ∙ too_many lines number octet (ahead ++ rest) many)

-- what is left to read stays
pub stays : (all old new : Option (List ℕ)) (lines : List Line) (number : ℕ) → IsReadTo all old lines number → Keeps old new → IsReadTo all new lines number
stays None old new lines number read kept = tt
stays (Some all) None new lines number read kept = absurd read
stays (Some all) (Some octets) None lines number read kept = absurd kept
stays (Some all) (Some octets) (Some rest) lines number read kept = ap (λ o. lines_behind lines (lines_from number (questions_of lines) (pieces_of o))) kept ∙ read

-- an octet of an unended piece
unended-at : (piece : List ℕ) (place : ℕ) → IsUnended piece → place < length piece → get_or piece place 0 ≢ 10
unended-at [] place unended within = absurd (omega arith)
unended-at (octet ∷ piece) zero unended within = unended.0
unended-at (octet ∷ piece) (suc place) unended within = unended-at piece place unended.1 (omega arith)

by_tests : (a b : Bool) (front found : List ℕ) → cond a None (cond b (Some front) None) ≡ Some found → (b ≡ true) × (front ≡ found)
by_tests true b front found h = absurd cc
by_tests false true front found h = (refl, cc)
by_tests false false front found h = absurd cc

by_end : (piece : List ℕ) (found : Option (List ℕ)) → before_last piece 10 ≡ found → ((front : List ℕ) → found ≡ Some front → 140000 < length front)
    → 140000 < length piece → line_of_piece piece ≡ None
by_end piece None is long longer =
    let over : nat_le (length piece) 140000 ≡ false = grind (arith, nat_tests) in ap (line_ended piece) is ∙ rw over refl
by_end piece (Some front) is long longer =
    let far : 140000 < length front = long front refl in
    let over : nat_le (length front) 140000 ≡ false = grind (arith, nat_tests) in ap (line_ended piece) is ∙ rw over refl

too_long : (piece more : List ℕ) → IsUnended piece → 140000 < length piece → line_of_piece (piece ++ more) ≡ None
too_long piece [] unended long =
    let same : piece ++ [] ≡ piece = append-nil piece in
    subst (λ p. line_of_piece p ≡ None) (sym same)
    (by_end piece (before_last piece 10) refl
    (λ front h.
    let found = by_tests (length piece == 0) (slice_index piece (length piece - 1) == 10) (take (length piece - 1) piece) front h in
    let last : get_or piece (length piece - 1) 0 ≡ 10 = grind (arith, nat_tests, found.0) in
    absurd (unended-at piece (length piece - 1) unended (omega arith) last)) long)
too_long piece (octet ∷ more) unended long =
    let whole : List ℕ = piece ++ octet ∷ more in
    let size : length (piece ++ octet ∷ more) ≡ length piece + suc (length more) = length-append piece (octet ∷ more) in
    by_end (piece ++ octet ∷ more) (before_last (piece ++ octet ∷ more) 10) refl
    (λ front h.
    let found = by_tests (length (piece ++ octet ∷ more) == 0) (slice_index (piece ++ octet ∷ more) (length (piece ++ octet ∷ more) - 1) == 10)
    (take (length (piece ++ octet ∷ more) - 1) (piece ++ octet ∷ more)) front h in
    omega (arith, size, ap length found.1, length-take (length (piece ++ octet ∷ more) - 1) (piece ++ octet ∷ more)))
    (omega (arith, size))

-- pieces, with octets in front of the first
abbrev onto : List ℕ → List (List ℕ) → List (List ℕ)
onto front [] = front ∷ []
onto front (piece ∷ pieces) = (front ++ piece) ∷ pieces

onto-cons : (octet : ℕ) (front : List ℕ) (pieces : List (List ℕ)) → with_octet octet (onto front pieces) ≡ onto (octet ∷ front) pieces
onto-cons octet front [] = refl
onto-cons octet front (piece ∷ pieces) = refl

onto-one : (octet : ℕ) (pieces : List (List ℕ)) → with_octet octet pieces ≡ onto (octet ∷ []) pieces
onto-one octet [] = refl
onto-one octet (piece ∷ pieces) = refl

pieces_of-onto : (octet : ℕ) (octets rest : List ℕ) → IsUnended (octet ∷ octets) → pieces_of ((octet ∷ octets) ++ rest) ≡ onto (octet ∷ octets) (pieces_of rest)
pieces_of-onto octet [] rest unended =
    let no : (octet == 10) ≡ false = grind (arith, nat_tests, unended.0) in rw no (onto-one octet (pieces_of rest))
pieces_of-onto octet (next ∷ octets) rest unended =
    let no : (octet == 10) ≡ false = grind (arith, nat_tests, unended.0) in
    rw no (ap (with_octet octet) (pieces_of-onto next octets rest unended.1) ∙ onto-cons octet (next ∷ octets) (pieces_of rest))

endless_in : (all octets : List ℕ) (lines : List Line) (number : ℕ) (piece : List ℕ) (pieces : List (List ℕ)) → number < 1000000
    → lines_behind lines (lines_from number (questions_of lines) (pieces_of octets)) ≡ trace_of all → IsUnended piece → 140000 < length piece
    → pieces_of octets ≡ onto piece pieces → trace_of all ≡ Err (BadLine number)
endless_in all octets lines number piece [] few read unended long cut =
    stopped all octets lines number piece [] few read cut
    (subst (λ p. line_of_piece p ≡ None) (append-nil piece) (too_long piece [] unended long))
endless_in all octets lines number piece (first ∷ pieces) few read unended long cut =
    stopped all octets lines number (piece ++ first) pieces few read cut (too_long piece first unended long)

pub endless : (all old new : Option (List ℕ)) (lines : List Line) (number : ℕ) (piece : List ℕ) → number < 1000000
    → IsReadTo all old lines number → ReadsPiece old new piece Endless → IsFaultOfTrace all (BadLine number)
endless None old new lines number piece few read was = tt
endless (Some all) None new lines number piece few read was = absurd read
endless (Some all) (Some octets) None lines number piece few read was = absurd was
endless (Some all) (Some octets) (Some rest) lines number [] few read was = absurd (omega (arith, was.1.1))
endless (Some all) (Some octets) (Some rest) lines number (octet ∷ piece) few read was =
    trace_of-fault all (BadLine number) (endless_in all octets lines number (octet ∷ piece) (pieces_of rest) few read was.1.0 was.1.1
    (ap pieces_of was.0 ∙ pieces_of-onto octet piece rest was.1.0))

-- nothing more was read
pub nothing : (all old new : Option (List ℕ)) (lines : List Line) (number : ℕ) → IsReadTo all old lines number → ReadsPiece old new [] Last
    → IsReadTo all new lines number
nothing None old new lines number read was = tt
nothing (Some all) None new lines number read was = absurd read
nothing (Some all) (Some octets) None lines number read was = absurd was
nothing (Some all) (Some octets) (Some rest) lines number read was = ap (λ o. lines_behind lines (lines_from number (questions_of lines) (pieces_of o))) (sym was.0) ∙ read

-- the lines so far are lawful, as many as their number says, their questions are these, and what is left to read says the others
pub record IsReadSoFar (all now : Option (List ℕ)) (lines : List Line) (number : ℕ) (questions : List KeyOf) : Type 0 where
  pub read : IsReadTo all now lines number
  pub lawful : All IsLawful lines
  pub count : length lines ≡ number
  pub fetched : questions ≡ questions_of lines
  pub few : HaveFewQuestions lines

pub so_far_none : (all : Option (List ℕ)) → IsReadSoFar all (prepend_known [] all) [] 0 []
so_far_none all = record { read = IsReadTo-none all; lawful = All-nil IsLawful; count = refl; fetched = refl; few = omega arith }

pub stops : (fault : ReplayFault) (all old new : Option (List ℕ)) (lines : List Line) (number : ℕ) (questions after : List KeyOf) (piece : List ℕ) → number < MOST_LINES
    → IsReadSoFar all old lines number questions → ReadsCut old new piece → GivesLine number questions after (Err fault) (line_of_piece piece) → IsFaultOfTrace all fault
stops fault all old new lines number questions after piece few far cut given =
    stops_at fault all old new lines number piece after few far.read cut
    (subst (λ (qs : List KeyOf). GivesLine number qs after (Err fault) (line_of_piece piece)) far.fetched given)

pub so_far_more : (all old new : Option (List ℕ)) (lines : List Line) (number : ℕ) (questions after : List KeyOf) (piece : List ℕ) (line : Line) → number < MOST_LINES
    → IsReadSoFar all old lines number questions → ReadsCut old new piece → GivesLine number questions after (Ok line) (line_of_piece piece)
    → IsReadSoFar all new (lines ++ line ∷ []) (number + 1) after
so_far_more all old new lines number questions after piece line few far cut given =
    let fetched : after ≡ with_question (questions_of lines) (fetched_by line) = given.1 ∙ ap (λ (qs : List KeyOf). with_question qs (fetched_by line)) far.fetched in
    let fits : length (with_question (questions_of lines) (fetched_by line)) ≤ MOST_QUESTIONS = subst (λ (qs : List KeyOf). length qs ≤ MOST_QUESTIONS) fetched given.2 in
    let whole : after ≡ questions_of (lines ++ line ∷ []) = fetched ∙ sym (questions-push [] lines line) in
    record {
      read = IsReadTo-more all old new lines number piece line few far.read cut given.0 fits;
      lawful = All-push IsLawful lines line far.lawful (says_lawful piece line given.0);
      count = length-append lines (line ∷ []) ∙ ap (λ n. n + 1) far.count;
      fetched = whole;
      few = subst (λ (qs : List KeyOf). length qs ≤ MOST_QUESTIONS) whole given.2;
    }

-- lines so far are a trace's where no more are than may be
pub are_lawful : (all now : Option (List ℕ)) (lines : List Line) (number : ℕ) (questions : List KeyOf) → IsReadSoFar all now lines number questions → number ≤ MOST_LINES
    → AreLawful lines
are_lawful all now lines number questions far few = record { few = omega (arith, far.count, few); questions = far.few; each = far.lawful }

pub some_octets : (piece : List ℕ) → (length piece == 0) ≡ false → piece ≢ []
some_octets [] h = λ e. absurd cc
some_octets (octet ∷ piece) h = λ e. absurd cc

pub no_octets : (piece : List ℕ) → (length piece == 0) ≡ true → piece ≡ []
no_octets [] h = refl
no_octets (octet ∷ piece) h = absurd (grind (arith, nat_tests))
