-- SPDX-License-Identifier: MIT
-- The header of a response (RFC 1035 4.1.1).
use Rattle.std.specs.Prelude.{ℕ, ◌/◌, ◌%◌, ◌^◌, Bool, not, ◌==◌, nat_lt, List, length, if◌then◌else◌, Result, Ok, Err}
use Rattle.rrc_wire.specs.declared.fault.WireFault.{WireFault}
use Rattle.rrc_wire.specs.declared.fault.WireFault.TheVariants.{Short, NotResponse, NotOneQuestion, TooLong}
use Rattle.rrc_wire.specs.Reading.{word_at}

-- the fields of a header; its counts are those of the three sections
pub record HeaderFields : Type 0 where
  pub id : ℕ
  pub opcode : ℕ
  pub aa : Bool
  pub tc : Bool
  pub rd : Bool
  pub ra : Bool
  pub rcode : ℕ
  pub answers : ℕ
  pub authorities : ℕ
  pub additionals : ℕ

-- whether the bit of a flag word is set, the lowest being bit 0
abbrev pub flag : ℕ → ℕ → Bool
flag flags bit = flags / 2 ^ bit % 2 == 1

-- the fields of the header; Z is ignored
abbrev pub fields_of : List ℕ → HeaderFields
fields_of message =
    let flags = word_at message 2 in record {
      id = word_at message 0;
      opcode = flags / 2 ^ 11 % 16;
      aa = flag flags 10;
      tc = flag flags 9;
      rd = flag flags 8;
      ra = flag flags 7;
      rcode = flags % 16;
      answers = word_at message 6;
      authorities = word_at message 8;
      additionals = word_at message 10;
    }

-- the header of a response with one question
unfoldable pub header_of : List ℕ → Result HeaderFields WireFault
header_of message =
    if nat_lt 65535 (length message) then Err TooLong
    else if nat_lt (length message) 12 then Err Short
    else if not (flag (word_at message 2) 15) then Err NotResponse
    else if not (word_at message 4 == 1) then Err NotOneQuestion
    else Ok (fields_of message)
