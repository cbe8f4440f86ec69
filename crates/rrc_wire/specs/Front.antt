-- SPDX-License-Identifier: MIT
-- The front of a message: its header, and the question behind that, apart from all that follows (RFC 1035 4.1).
use Rattle.std.specs.Prelude.{ℕ, ◌+◌, ◌%◌, Bool, ◌&&◌, ◌==◌, nat_le, List, length, slice_range, if◌then◌else◌, Option, Some, None, nat_eq}
use Rattle.std.specs.Cmp.Lexicographic.{pointwise}
use Rattle.rrc_name.specs.Wire.{same_name}
use Rattle.rrc_wire.specs.declared.front.Front.{Front}
use Rattle.rrc_wire.specs.declared.question.Question.{Question}
use Rattle.rrc_wire.specs.Header.{flag}
use Rattle.rrc_wire.specs.Reading.{word_at}

-- what the header of any message tells: its identifier, QR, QDCOUNT and RCODE (RFC 1035 4.1.1)
abbrev pub front_of : List ℕ → Option Front
front_of octets =
    if nat_le 12 (length octets)
    then Some (record {
      id = word_at octets 0;
      is_response = flag (word_at octets 2) 15;
      rcode = word_at octets 2 % 16;
      questions = word_at octets 4;
    })
    else None

-- whether two names are the same, the case of letters told apart or not (RFC 4343)
abbrev pub same_spelling : Bool → List ℕ → List ℕ → Bool
same_spelling with_case a b = if with_case then pointwise nat_eq a b else same_name a b

-- whether the type and class of a question stand at a place
abbrev pub has_fields : Question → List ℕ → ℕ → Bool
has_fields question octets place = word_at octets place == question.qtype && word_at octets (place + 2) == question.qclass

-- whether this question stands right behind the header, its name written out (RFC 1035 4.1.2)
unfoldable pub begins_with_question : Bool → Question → List ℕ → Bool
begins_with_question with_case question octets =
    let fields = 12 + length question.name in
    nat_le (fields + 4) (length octets) && (same_spelling with_case question.name (slice_range octets 12 fields) && has_fields question octets fields)
