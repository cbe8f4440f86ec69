-- SPDX-License-Identifier: MIT
-- Whether octets, or the message that they begin with, answer what was asked (RFC 5452 9.1).
use Rattle.std.specs.Prelude.{ℕ, List, Bool, ◌&&◌, ◌||◌, not, ◌==◌, Option, Some, None, if◌then◌else◌}
use Rattle.std.specs.Option.{option_map_or, option_or}
use Rattle.rrc_wire.specs.declared.fault.WireFault.{WireFault}
use Rattle.rrc_wire.specs.declared.fault.WireFault.TheVariants as wire
use Rattle.rrc_wire.specs.declared.question.Question.{Question}
use Rattle.rrc_wire.specs.declared.front.Front.{Front}
use Rattle.rrc_wire.specs.declared.message.Message.{Message}
use Rattle.rrc_wire.specs.Front.{begins_with_question, front_of, same_spelling}
use Rattle.rrc_sets.specs.declared.query.Query.{Query}
use Rattle.rrc_sets.specs.declared.query.QueryFault.{QueryFault}
use Rattle.rrc_sets.specs.declared.query.QueryFault.TheVariants.{OtherIdentifier, IsQuery, OtherQuestion, NoQuestion, NoResponse, Memory}

-- ---- octets, by their front alone

-- whether a header stands for a response to a query that its server could or would not read: it has no question, and its RCODE is
-- FORMERR, NOTIMP or REFUSED (RFC 1035 4.1.1)
abbrev pub refuses_alone : Front → Bool
refuses_alone front = front.questions == 0 && (front.rcode == 1 || (front.rcode == 4 || front.rcode == 5))

-- why octets with this front are no response to a query with this identifier, where they are none, but for their question
abbrev pub header_mismatch : ℕ → Front → Option QueryFault
header_mismatch id front =
    if not (id == front.id) then Some OtherIdentifier
    else if not front.is_response then Some IsQuery
    else if refuses_alone front then Some (NoQuestion front.rcode)
    else if not (front.questions == 1) then Some OtherQuestion
    else None

-- the same of octets, which have no identifier where they have no header
abbrev pub identifier_mismatch : ℕ → List ℕ → Option QueryFault
identifier_mismatch id octets = option_map_or (header_mismatch id) (front_of octets) (Some OtherIdentifier)

-- why octets are no response to a query, by their header and their question, where they are none
unfoldable pub front_mismatch : Query → List ℕ → Option QueryFault
front_mismatch query octets =
    option_or (identifier_mismatch query.id octets)
    (if begins_with_question query.with_case query.question octets then None else Some OtherQuestion)

-- ---- the message that they begin with

-- whether two questions are one, the case of letters in their names told apart or not (RFC 1035 4.1.2)
abbrev pub is_same_question : Bool → Question → Question → Bool
is_same_question with_case asked answered =
    asked.qtype == answered.qtype && (asked.qclass == answered.qclass && same_spelling with_case asked.name answered.name)

-- why a message is no response to a query, where it is none: its identifier, and then its question, is another one
abbrev pub mismatch : Query → Message → Option QueryFault
mismatch query message =
    if not (query.id == message.id) then Some OtherIdentifier
    else if not (is_same_question query.with_case query.question message.question) then Some OtherQuestion
    else None

-- what the fault of octets that cannot be read is to who sent a query
abbrev pub of_wire : WireFault → QueryFault
of_wire wire.Memory = Memory
of_wire fault = NoResponse fault
