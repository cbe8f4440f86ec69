-- SPDX-License-Identifier: MIT
-- Reading a message whole (RFC 1035 4.1).
use Rattle.std.specs.Prelude.{ℕ, List, Result, Ok}
use Rattle.rrc_wire.specs.declared.fault.WireFault.{WireFault}
use Rattle.rrc_wire.specs.Header.{HeaderFields, header_of}
use Rattle.rrc_wire.specs.declared.record.Rr.{Rr}
use Rattle.rrc_wire.specs.declared.question.Question.{Question}
use Rattle.rrc_wire.specs.declared.message.Message.{Message}
use Rattle.rrc_wire.specs.Reading.{◌>>=◌}
use Rattle.rrc_wire.specs.Question.{question_at}
use Rattle.rrc_wire.specs.Record.{section_at}

-- a message of a header, a question and the kept records of three sections
abbrev pub message_of : HeaderFields → Question → List Rr → List Rr → List Rr → Message
message_of header question answer authority additional =
    record {
      id = header.id;
      opcode = header.opcode;
      aa = header.aa;
      tc = header.tc;
      rd = header.rd;
      ra = header.ra;
      rcode = header.rcode;
      question = question;
      answer = answer;
      authority = authority;
      additional = additional;
    }

-- the message that some octets begin with; those behind the last record are ignored
abbrev pub message_in : List ℕ → Result Message WireFault
message_in octets = do
  header ← header_of octets
  question ← question_at octets 12
  answer ← section_at octets header.answers question.1
  authority ← section_at octets header.authorities answer.1
  additional ← section_at octets header.additionals authority.1
  Ok (message_of header question.0 answer.0 authority.0 additional.0)
