-- SPDX-License-Identifier: MIT
-- Reading a message fails where the octets have a first fault, and only there: that fault is the reader's.
use Rattle.std.proofs.Common.{◌≡◌, ℕ, ◌<◌, ◌≤◌, Bool, true, false, List, length, Result, Ok, Err, refl, sym, ap, subst, ◌∙◌, arith, eqb, nat_lt}
use Rattle.std.specs.Prelude.{◌↔◌, not}
use Rattle.rrc_wire.specs.declared.fault.WireFault.{WireFault}
use Rattle.rrc_wire.specs.declared.fault.WireFault.TheVariants.{Short, NotResponse, NotOneQuestion, TooLong}
use Rattle.rrc_wire.specs.Header.{HeaderFields, flag, fields_of, header_of}
use Rattle.rrc_wire.specs.declared.question.Question.{Question}
use Rattle.rrc_wire.specs.declared.record.Rr.{Rr}
use Rattle.rrc_wire.specs.declared.message.Message.{Message}
use Rattle.rrc_wire.specs.Reading.{word_at}
use Rattle.rrc_wire.specs.Question.{question_at}
use Rattle.rrc_wire.specs.Record.{section_at}
use Rattle.rrc_wire.specs.Message.{message_in}
use Rattle.rrc_wire.specs.Grammar.{Follow, RecordAt, QuestionAt}
use Rattle.rrc_wire.specs.FirstFault.{HaveHeader, BeginResponse, FirstFault}
use Rattle.rrc_wire.proofs.Steps.{false_lt, lt_false}
use Rattle.rrc_wire.proofs.RecordGrammar.{question_at-finds, question_at-reads, section_at-finds, section_at-reads}
use Rattle.rrc_wire.proofs.MessageGrammar.{Begins, not_false, tested, header_of-finds, header_of-reads, whole, behind_authority, behind_answer, behind_question, behind_header}
use Rattle.rrc_wire.proofs.Failing.{Breaks, at_once, behind, bind_err, first_err, then_err, err_is, Parts, so, not_so, cond_err, lt_true, true_lt, eq_false, false_eq}
use Rattle.rrc_wire.proofs.RecordFaults.{section_at-fails, section_at-fault, question_at-fails, question_at-fault}

-- ---- the header

not_true : (b : Bool) → not b ≡ true → b ≡ false
not_true true h = sym h
not_true false h = refl

-- the tests of the header, each behind those before it
abbrev one_question : List ℕ → Result HeaderFields WireFault
one_question octets = tested (not (eqb (word_at octets 4) 1)) NotOneQuestion (Ok (fields_of octets))

abbrev response : List ℕ → Result HeaderFields WireFault
response octets = tested (not (flag (word_at octets 2) 15)) NotResponse (one_question octets)

abbrev long : List ℕ → Result HeaderFields WireFault
long octets = tested (nat_lt (length octets) 12) Short (response octets)

header_of-fails : (octets : List ℕ) (fault : WireFault) → header_of octets ≡ Err fault → FirstFault octets fault
unfolding header_of
header_of-fails octets fault h = short (cond_err (nat_lt 65535 (length octets)) (Err TooLong) (long octets) fault h)
  where
    questions : HaveHeader octets → flag (word_at octets 2) 15 ≡ true → Parts (not (eqb (word_at octets 4) 1)) (Err NotOneQuestion) (Ok (fields_of octets)) fault → FirstFault octets fault
    questions have qr (so is e) =
        subst (FirstFault octets) (err_is NotOneQuestion fault e) (FirstFault.not_one_question have qr (false_eq (word_at octets 4) 1 (not_true (eqb (word_at octets 4) 1) is)))
    questions have qr (not_so is e) = absurd cc

    qr_bit : HaveHeader octets → Parts (not (flag (word_at octets 2) 15)) (Err NotResponse) (one_question octets) fault → FirstFault octets fault
    qr_bit have (so is e) = subst (FirstFault octets) (err_is NotResponse fault e) (FirstFault.no_response have (not_true (flag (word_at octets 2) 15) is))
    qr_bit have (not_so is e) =
        questions have (not_false (flag (word_at octets 2) 15) is) (cond_err (not (eqb (word_at octets 4) 1)) (Err NotOneQuestion) (Ok (fields_of octets)) fault e)

    room : length octets ≤ 65535 → Parts (nat_lt (length octets) 12) (Err Short) (response octets) fault → FirstFault octets fault
    room few (so is e) = subst (FirstFault octets) (err_is Short fault e) (FirstFault.no_header (true_lt (length octets) 12 is))
    room few (not_so is e) =
        qr_bit (record { long = false_lt (length octets) 12 is; short = few }) (cond_err (not (flag (word_at octets 2) 15)) (Err NotResponse) (one_question octets) fault e)

    short : Parts (nat_lt 65535 (length octets)) (Err TooLong) (long octets) fault → FirstFault octets fault
    short (so is e) = subst (FirstFault octets) (err_is TooLong fault e) (FirstFault.too_long (true_lt 65535 (length octets) is))
    short (not_so is e) = room (false_lt 65535 (length octets) is) (cond_err (nat_lt (length octets) 12) (Err Short) (response octets) fault e)

begin_response : (octets : List ℕ) (header : HeaderFields) → Begins octets header → BeginResponse octets
begin_response octets header begins =
    record { header = record { long = begins.long; short = begins.short }; response = begins.response; one_question = begins.one_question }

-- ---- what is read behind it

-- what follows the question, the answer and the authority section, each of which stands
authority-fails : (octets : List ℕ) (question : Question × ℕ) (answer authority : List Rr × ℕ) (fault : WireFault) → BeginResponse octets → QuestionAt octets 12 question.0 question.1
    → Follow (RecordAt octets) (word_at octets 6) question.1 answer.0 answer.1 → Follow (RecordAt octets) (word_at octets 8) answer.1 authority.0 authority.1
    → behind_authority octets (fields_of octets) question answer authority ≡ Err fault → FirstFault octets fault
authority-fails octets question answer authority fault begins asked first second h =
    by (bind_err (section_at octets (word_at octets 10) authority.1) (whole (fields_of octets) question answer authority) fault h)
  where
    by : Breaks (section_at octets (word_at octets 10) authority.1) (whole (fields_of octets) question answer authority) fault → FirstFault octets fault
    by (at_once e) = FirstFault.additional begins asked first second (section_at-fails octets (word_at octets 10) authority.1 fault e)
    by (behind additional found e) = absurd cc

answer-fails : (octets : List ℕ) (question : Question × ℕ) (answer : List Rr × ℕ) (fault : WireFault) → BeginResponse octets → QuestionAt octets 12 question.0 question.1
    → Follow (RecordAt octets) (word_at octets 6) question.1 answer.0 answer.1 → behind_answer octets (fields_of octets) question answer ≡ Err fault → FirstFault octets fault
answer-fails octets question answer fault begins asked first h =
    by (bind_err (section_at octets (word_at octets 8) answer.1) (behind_authority octets (fields_of octets) question answer) fault h)
  where
    by : Breaks (section_at octets (word_at octets 8) answer.1) (behind_authority octets (fields_of octets) question answer) fault → FirstFault octets fault
    by (at_once e) = FirstFault.authority begins asked first (section_at-fails octets (word_at octets 8) answer.1 fault e)
    by (behind authority found e) =
        authority-fails octets question answer authority fault begins asked first (section_at-finds octets (word_at octets 8) answer.1 authority.0 authority.1 found) e

question-fails : (octets : List ℕ) (question : Question × ℕ) (fault : WireFault) → BeginResponse octets → QuestionAt octets 12 question.0 question.1
    → behind_question octets (fields_of octets) question ≡ Err fault → FirstFault octets fault
question-fails octets question fault begins asked h =
    by (bind_err (section_at octets (word_at octets 6) question.1) (behind_answer octets (fields_of octets) question) fault h)
  where
    by : Breaks (section_at octets (word_at octets 6) question.1) (behind_answer octets (fields_of octets) question) fault → FirstFault octets fault
    by (at_once e) = FirstFault.answer begins asked (section_at-fails octets (word_at octets 6) question.1 fault e)
    by (behind answer found e) = answer-fails octets question answer fault begins asked (section_at-finds octets (word_at octets 6) question.1 answer.0 answer.1 found) e

header-fails : (octets : List ℕ) (fault : WireFault) → BeginResponse octets → behind_header octets (fields_of octets) ≡ Err fault → FirstFault octets fault
header-fails octets fault begins h = by (bind_err (question_at octets 12) (behind_question octets (fields_of octets)) fault h)
  where
    by : Breaks (question_at octets 12) (behind_question octets (fields_of octets)) fault → FirstFault octets fault
    by (at_once e) = FirstFault.question begins (question_at-fails octets 12 fault e)
    by (behind question found e) = question-fails octets question fault begins (question_at-finds octets 12 question.0 question.1 found) e

-- the fault of a message that is not read is the octets' first one
pub message_in-fails : (octets : List ℕ) (fault : WireFault) → message_in octets ≡ Err fault → FirstFault octets fault
message_in-fails octets fault h = by (bind_err (header_of octets) (behind_header octets) fault h)
  where
    by : Breaks (header_of octets) (behind_header octets) fault → FirstFault octets fault
    by (at_once e) = header_of-fails octets fault e
    by (behind header found e) =
        let begins = header_of-finds octets header found in
        header-fails octets fault (begin_response octets header begins) (ap (behind_header octets) begins.fields ∙ e)

-- ---- a first fault is met

stopped : (b : Bool) (fault : WireFault) (rest : Result HeaderFields WireFault) → b ≡ true → tested b fault rest ≡ Err fault
stopped b fault rest h = ap (λ (t : Bool). tested t fault rest) h

passed : (b : Bool) (fault : WireFault) (rest : Result HeaderFields WireFault) → b ≡ false → tested b fault rest ≡ rest
passed b fault rest h = ap (λ (t : Bool). tested t fault rest) h

have_header : (octets : List ℕ) → HaveHeader octets → header_of octets ≡ response octets
unfolding header_of
have_header octets have =
    passed (nat_lt 65535 (length octets)) TooLong (long octets) (lt_false 65535 (length octets) have.short)
    ∙ passed (nat_lt (length octets) 12) Short (response octets) (lt_false (length octets) 12 have.long)

header_of-too_long : (octets : List ℕ) → 65535 < length octets → header_of octets ≡ Err TooLong
unfolding header_of
header_of-too_long octets less = stopped (nat_lt 65535 (length octets)) TooLong (long octets) (lt_true 65535 (length octets) less)

header_of-short : (octets : List ℕ) → length octets < 12 → header_of octets ≡ Err Short
unfolding header_of
header_of-short octets less =
    passed (nat_lt 65535 (length octets)) TooLong (long octets) (lt_false 65535 (length octets) (omega arith))
    ∙ stopped (nat_lt (length octets) 12) Short (response octets) (lt_true (length octets) 12 less)

-- a fault behind the header, the question, the answer and the authority section
behind_header-met : (octets : List ℕ) (fault : WireFault) → BeginResponse octets → behind_header octets (fields_of octets) ≡ Err fault → message_in octets ≡ Err fault
behind_header-met octets fault begins next =
    then_err (header_of octets) (behind_header octets) (fields_of octets) fault
    (header_of-reads octets (fields_of octets)
    (record { long = begins.header.long; short = begins.header.short; response = begins.response; one_question = begins.one_question; fields = refl })) next

behind_question-met : (octets : List ℕ) (question : Question) (answers : ℕ) (fault : WireFault) → QuestionAt octets 12 question answers
    → behind_question octets (fields_of octets) (question, answers) ≡ Err fault → behind_header octets (fields_of octets) ≡ Err fault
behind_question-met octets question answers fault asked next =
    then_err (question_at octets 12) (behind_question octets (fields_of octets)) (question, answers) fault (question_at-reads octets 12 question answers asked) next

behind_answer-met : (octets : List ℕ) (question : Question × ℕ) (answer : List Rr) (authorities : ℕ) (fault : WireFault)
    → Follow (RecordAt octets) (word_at octets 6) question.1 answer authorities
    → behind_answer octets (fields_of octets) question (answer, authorities) ≡ Err fault → behind_question octets (fields_of octets) question ≡ Err fault
behind_answer-met octets question answer authorities fault stand next =
    then_err (section_at octets (word_at octets 6) question.1) (behind_answer octets (fields_of octets) question) (answer, authorities) fault
    (section_at-reads octets (word_at octets 6) question.1 answer authorities stand) next

behind_authority-met : (octets : List ℕ) (question : Question × ℕ) (answer : List Rr × ℕ) (authority : List Rr) (additionals : ℕ) (fault : WireFault)
    → Follow (RecordAt octets) (word_at octets 8) answer.1 authority additionals
    → behind_authority octets (fields_of octets) question answer (authority, additionals) ≡ Err fault → behind_answer octets (fields_of octets) question answer ≡ Err fault
behind_authority-met octets question answer authority additionals fault stand next =
    then_err (section_at octets (word_at octets 8) answer.1) (behind_authority octets (fields_of octets) question answer) (authority, additionals) fault
    (section_at-reads octets (word_at octets 8) answer.1 authority additionals stand) next

-- the octets' first fault is that of reading
pub first_fault-met : {octets : List ℕ} {fault : WireFault} → FirstFault octets fault → message_in octets ≡ Err fault
first_fault-met {octets} (FirstFault.too_long less) = first_err (header_of octets) (behind_header octets) TooLong (header_of-too_long octets less)
first_fault-met {octets} (FirstFault.no_header less) = first_err (header_of octets) (behind_header octets) Short (header_of-short octets less)
first_fault-met {octets} (FirstFault.no_response have qr) =
    first_err (header_of octets) (behind_header octets) NotResponse
    (have_header octets have ∙ stopped (not (flag (word_at octets 2) 15)) NotResponse (one_question octets) (ap not qr))
first_fault-met {octets} (FirstFault.not_one_question have qr other) =
    first_err (header_of octets) (behind_header octets) NotOneQuestion
    (have_header octets have ∙ passed (not (flag (word_at octets 2) 15)) NotResponse (one_question octets) (ap not qr)
    ∙ stopped (not (eqb (word_at octets 4) 1)) NotOneQuestion (Ok (fields_of octets)) (ap not (eq_false (word_at octets 4) 1 other)))
first_fault-met {octets} (FirstFault.question {fault = fault} begins bad) =
    behind_header-met octets fault begins (first_err (question_at octets 12) (behind_question octets (fields_of octets)) fault (question_at-fault bad))
first_fault-met {octets} (FirstFault.answer {fault = fault} {question = question} {answers = answers} begins asked bad) =
    behind_header-met octets fault begins
    (behind_question-met octets question answers fault asked
    (first_err (section_at octets (word_at octets 6) answers) (behind_answer octets (fields_of octets) (question, answers)) fault (section_at-fault octets (word_at octets 6) answers fault bad)))
first_fault-met {octets} (FirstFault.authority {fault = fault} {question = question} {answer = answer} {answers = answers} {authorities = authorities} begins asked first bad) =
    behind_header-met octets fault begins
    (behind_question-met octets question answers fault asked
    (behind_answer-met octets (question, answers) answer authorities fault first
    (first_err (section_at octets (word_at octets 8) authorities) (behind_authority octets (fields_of octets) (question, answers) (answer, authorities)) fault
    (section_at-fault octets (word_at octets 8) authorities fault bad))))
first_fault-met {octets} (FirstFault.additional {fault = fault} {question = question} {answer = answer} {authority = authority} {answers = answers} {authorities = authorities} {additionals = additionals} begins asked first second bad) =
    behind_header-met octets fault begins
    (behind_question-met octets question answers fault asked
    (behind_answer-met octets (question, answers) answer authorities fault first
    (behind_authority-met octets (question, answers) (answer, authorities) authority additionals fault second
    (first_err (section_at octets (word_at octets 10) additionals) (whole (fields_of octets) (question, answers) (answer, authorities) (authority, additionals)) fault
    (section_at-fault octets (word_at octets 10) additionals fault bad)))))

-- the first fault is the reader's
pub first_fault-is : (octets : List ℕ) (fault : WireFault) → FirstFault octets fault ↔ (message_in octets ≡ Err fault)
first_fault-is octets fault = (first_fault-met, message_in-fails octets fault)

-- octets have one first fault
pub one_first_fault : (octets : List ℕ) (fault other : WireFault) → FirstFault octets fault → FirstFault octets other → fault ≡ other
one_first_fault octets fault other first also = err_is {A = Message} fault other (sym (first_fault-met first) ∙ first_fault-met also)
