-- SPDX-License-Identifier: MIT
-- A message is read where the octets begin with one, and only there.
use Rattle.std.proofs.Common.{◌≡◌, ℕ, ◌≤◌, Bool, true, false, cond, List, length, Result, Ok, Err, refl, sym, ap, subst, ◌∙◌, eqb, nat_lt}
use Rattle.std.specs.Prelude.{not}
use Rattle.rrc_wire.specs.declared.fault.WireFault.{WireFault}
use Rattle.rrc_wire.specs.declared.fault.WireFault.TheVariants.{Short, NotResponse, NotOneQuestion, TooLong}
use Rattle.rrc_wire.specs.Header.{HeaderFields, flag, fields_of, header_of}
use Rattle.rrc_wire.specs.declared.question.Question.{Question}
use Rattle.rrc_wire.specs.declared.record.Rr.{Rr}
use Rattle.rrc_wire.specs.declared.message.Message.{Message}
use Rattle.rrc_wire.specs.Reading.{◌>>=◌, word_at}
use Rattle.rrc_wire.specs.Question.{question_at}
use Rattle.rrc_wire.specs.Record.{section_at}
use Rattle.rrc_wire.specs.Message.{message_of, message_in}
use Rattle.rrc_wire.specs.Grammar.{MessageOf}
use Rattle.rrc_wire.proofs.Steps.{ok_is, bind_ok, then_ok, refused_ok, false_lt, lt_false, true_eq, eq_true}
use Rattle.rrc_wire.proofs.RecordGrammar.{question_at-finds, question_at-reads, section_at-finds, section_at-reads}

-- the header

pub record Begins (octets : List ℕ) (header : HeaderFields) : Type 0 where
  pub long : 12 ≤ length octets
  pub short : length octets ≤ 65535
  pub response : flag (word_at octets 2) 15 ≡ true
  pub one_question : word_at octets 4 ≡ 1
  pub fields : fields_of octets ≡ header

pub not_false : (b : Bool) → not b ≡ false → b ≡ true
not_false true h = refl
not_false false h = sym h

abbrev pub tested : Bool → WireFault → Result HeaderFields WireFault → Result HeaderFields WireFault
tested b fault rest = cond b (Err fault) rest

pub header_of-finds : (octets : List ℕ) (header : HeaderFields) → header_of octets ≡ Ok header → Begins octets header
unfolding header_of
header_of-finds octets header h =
    let last = tested (not (eqb (word_at octets 4) 1)) NotOneQuestion (Ok (fields_of octets)) in
    let third = tested (not (flag (word_at octets 2) 15)) NotResponse last in
    let second = tested (nat_lt (length octets) 12) Short third in
    let a = refused_ok (nat_lt 65535 (length octets)) second TooLong header h in
    let b = refused_ok (nat_lt (length octets) 12) third Short header a.1 in
    let c = refused_ok (not (flag (word_at octets 2) 15)) last NotResponse header b.1 in
    let d = refused_ok (not (eqb (word_at octets 4) 1)) (Ok (fields_of octets)) NotOneQuestion header c.1 in
    record {
      long = false_lt (length octets) 12 b.0;
      short = false_lt 65535 (length octets) a.0;
      response = not_false (flag (word_at octets 2) 15) c.0;
      one_question = true_eq (word_at octets 4) 1 (not_false (eqb (word_at octets 4) 1) d.0);
      fields = ok_is (fields_of octets) header d.1;
    }

passed : (b : Bool) (fault : WireFault) (rest : Result HeaderFields WireFault) → b ≡ false → tested b fault rest ≡ rest
passed b fault rest h = ap (λ (t : Bool). tested t fault rest) h

pub header_of-reads : (octets : List ℕ) (header : HeaderFields) → Begins octets header → header_of octets ≡ Ok header
unfolding header_of
header_of-reads octets header is =
    let last = tested (not (eqb (word_at octets 4) 1)) NotOneQuestion (Ok (fields_of octets)) in
    let third = tested (not (flag (word_at octets 2) 15)) NotResponse last in
    let second = tested (nat_lt (length octets) 12) Short third in
    passed (nat_lt 65535 (length octets)) TooLong second (lt_false 65535 (length octets) is.short)
    ∙ passed (nat_lt (length octets) 12) Short third (lt_false (length octets) 12 is.long)
    ∙ passed (not (flag (word_at octets 2) 15)) NotResponse last (ap not is.response)
    ∙ passed (not (eqb (word_at octets 4) 1)) NotOneQuestion (Ok (fields_of octets)) (ap not (eq_true (word_at octets 4) 1 is.one_question))
    ∙ ap (λ (header : HeaderFields). Ok header) is.fields

-- the message

abbrev pub whole : HeaderFields → Question × ℕ → List Rr × ℕ → List Rr × ℕ → List Rr × ℕ → Result Message WireFault
whole header question answer authority additional = Ok (message_of header question.0 answer.0 authority.0 additional.0)

abbrev pub behind_authority : List ℕ → HeaderFields → Question × ℕ → List Rr × ℕ → List Rr × ℕ → Result Message WireFault
behind_authority octets header question answer authority = section_at octets header.additionals authority.1 >>= whole header question answer authority

abbrev pub behind_answer : List ℕ → HeaderFields → Question × ℕ → List Rr × ℕ → Result Message WireFault
behind_answer octets header question answer = section_at octets header.authorities answer.1 >>= behind_authority octets header question answer

abbrev pub behind_question : List ℕ → HeaderFields → Question × ℕ → Result Message WireFault
behind_question octets header question = section_at octets header.answers question.1 >>= behind_answer octets header question

abbrev pub behind_header : List ℕ → HeaderFields → Result Message WireFault
behind_header octets header = question_at octets 12 >>= behind_question octets header

-- what is read as a message is one
pub message_in-finds : (octets : List ℕ) (m : Message) → message_in octets ≡ Ok m → MessageOf octets m
message_in-finds octets m h =
    let header = bind_ok (header_of octets) (behind_header octets) m h in
    let begins = header_of-finds octets header.0 header.1 in
    let fields = fields_of octets in
    let rest : behind_header octets fields ≡ Ok m = ap (behind_header octets) begins.fields ∙ header.2 in
    let question = bind_ok (question_at octets 12) (behind_question octets fields) m rest in
    let answer = bind_ok (section_at octets fields.answers question.0.1) (behind_answer octets fields question.0) m question.2 in
    let authority = bind_ok (section_at octets fields.authorities answer.0.1) (behind_authority octets fields question.0 answer.0) m answer.2 in
    let additional = bind_ok (section_at octets fields.additionals authority.0.1) (whole fields question.0 answer.0 authority.0) m authority.2 in
    let made : Message = message_of fields question.0.0 answer.0.0 authority.0.0 additional.0.0 in
    subst (MessageOf octets) (ok_is made m additional.2) (record {
      long = begins.long;
      short = begins.short;
      response = begins.response;
      one_question = begins.one_question;
      header = record { id = refl; opcode = refl; aa = refl; tc = refl; rd = refl; ra = refl; rcode = refl };
      answers = question.0.1;
      authorities = answer.0.1;
      additionals = authority.0.1;
      behind = additional.0.1;
      question = question_at-finds octets 12 question.0.0 question.0.1 question.1;
      answer = section_at-finds octets fields.answers question.0.1 answer.0.0 answer.0.1 answer.1;
      authority = section_at-finds octets fields.authorities answer.0.1 authority.0.0 authority.0.1 authority.1;
      additional = section_at-finds octets fields.additionals authority.0.1 additional.0.0 additional.0.1 additional.1;
    })

-- a message that the octets begin with is read
pub message_in-reads : (octets : List ℕ) (m : Message) → MessageOf octets m → message_in octets ≡ Ok m
message_in-reads octets m is =
    let fields = fields_of octets in
    let question : Question × ℕ = (m.question, is.answers) in
    let answer : List Rr × ℕ = (m.answer, is.authorities) in
    let authority : List Rr × ℕ = (m.authority, is.additionals) in
    let additional : List Rr × ℕ = (m.additional, is.behind) in
    let h = is.header in
    let same : message_of fields m.question m.answer m.authority m.additional ≡ m =
    λ i. record {
      id = sym h.id i;
      opcode = sym h.opcode i;
      aa = sym h.aa i;
      tc = sym h.tc i;
      rd = sym h.rd i;
      ra = sym h.ra i;
      rcode = sym h.rcode i;
      question = m.question;
      answer = m.answer;
      authority = m.authority;
      additional = m.additional;
    } in
    then_ok (header_of octets) (behind_header octets) fields m
    (header_of-reads octets fields (record { long = is.long; short = is.short; response = is.response; one_question = is.one_question; fields = refl }))
    (then_ok (question_at octets 12) (behind_question octets fields) question m (question_at-reads octets 12 m.question is.answers is.question)
    (then_ok (section_at octets fields.answers is.answers) (behind_answer octets fields question) answer m (section_at-reads octets fields.answers is.answers m.answer is.authorities is.answer)
    (then_ok (section_at octets fields.authorities is.authorities) (behind_authority octets fields question answer) authority m (section_at-reads octets fields.authorities is.authorities m.authority is.additionals is.authority)
    (then_ok (section_at octets fields.additionals is.additionals) (whole fields question answer authority) additional m (section_at-reads octets fields.additionals is.additionals m.additional is.behind is.additional)
    (ap (λ (made : Message). Ok made) same)))))
