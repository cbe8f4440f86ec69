-- SPDX-License-Identifier: MIT
-- The class that a message is about (RFC 1035 3.2.4).
use Rattle.std.specs.Prelude.{ℕ, List, Bool, ◌&&◌, ◌==◌, filter}
use Rattle.std.specs.List.{list_all}
use Rattle.rrc_wire.specs.declared.record.Rr.{Rr}
use Rattle.rrc_wire.specs.declared.message.Message.{Message}

-- whether a record is of a class
abbrev pub is_of_class : ℕ → Rr → Bool
is_of_class class rr = rr.class == class

-- a message without its records of other classes than its question's, which count for nothing (ours)
abbrev pub in_own_class : Message → Message
in_own_class message =
    let own : List Rr → List Rr = filter (is_of_class message.question.qclass) in
    record message { answer = own message.answer; authority = own message.authority; additional = own message.additional }

-- whether all records of a message are of its question's class
abbrev pub has_one_class : Message → Bool
has_one_class message =
    let all : List Rr → Bool = list_all (is_of_class message.question.qclass) in
    all message.answer && (all message.authority && all message.additional)
