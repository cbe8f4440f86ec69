-- SPDX-License-Identifier: MIT
-- What stands where in a response (RFC 1035 4.1), apart from how it is read.
use Rattle.std.specs.Prelude.{◌≡◌, ◌<◌, ◌≤◌, ℕ, zero, suc, ◌+◌, ◌/◌, ◌%◌, ◌^◌, true, false, List, [], ◌∷◌, ◌++◌, length, slice_index, slice_range, MatchOption}
use Rattle.rrc_name.specs.Wire.{wire_of}
use Rattle.rrc_wire.specs.Layout.{LayoutOf, layout_of}
use Rattle.rrc_wire.specs.declared.question.Question.{Question}
use Rattle.rrc_wire.specs.declared.record.Rr.{Rr}
use Rattle.rrc_wire.specs.declared.message.Message.{Message}
use Rattle.rrc_wire.specs.Reading.{word_at}
use Rattle.rrc_wire.specs.Header.{flag}
use Rattle.rrc_wire.specs.Item.{target_at}
use Rattle.rrc_wire.specs.Record.{keeps, rr_of}

-- `NameAt message end run place labels next`: at a place of the run that began at `run`, and that reads up to `end`, a name
-- goes on with these labels, and what follows it follows at `next` (RFC 1035 4.1.4)
pub data NameAt (message : List ℕ) : ℕ → ℕ → ℕ → List (List ℕ) → ℕ → Type 0 where
  -- a zero octet ends it
  root : {end run place next : ℕ} → place < end → slice_index message place ≡ 0 → next ≡ place + 1
      → NameAt message end run place [] next
  -- a label of 1 to 63 octets stands behind its length octet
  label : {end run place behind next : ℕ} {first : List ℕ} {labels : List (List ℕ)}
      → slice_index message place ≡ length first → 1 ≤ length first → length first ≤ 63
      → behind ≡ place + 1 + length first → behind ≤ end → first ≡ slice_range message (place + 1) behind
      → NameAt message end run behind labels next → NameAt message end run place (first ∷ labels) next
  -- a pointer leads to a place below its run, where the name goes on in a run of its own up to the message's end
  pointer : {end run place target next behind : ℕ} {labels : List (List ℕ)}
      → place + 2 ≤ end → 192 ≤ slice_index message place → target ≡ target_at message place → target < run → next ≡ place + 2
      → NameAt message (length message) target target labels behind → NameAt message end run place labels next

-- a whole name stands at a place: its labels make a wire form of at most 255 octets (RFC 1035 2.3.4)
pub record StandsAt (message : List ℕ) (end place : ℕ) (name : List ℕ) (next : ℕ) : Type 0 where
  pub labels : List (List ℕ)
  pub labels_stand : NameAt message end place place labels next
  pub octets : wire_of labels ≡ name
  pub short : length name ≤ 255

-- so many pieces stand one after another, each where the one before it ends
pub data Follow {A : Type 0} (Stands : ℕ → List A → ℕ → Type 0) : ℕ → ℕ → List A → ℕ → Type 0 where
  none : {place next : ℕ} → next ≡ place → Follow Stands zero place [] next
  more : {count place middle next : ℕ} {piece others pieces : List A}
      → Stands place piece middle → Follow Stands count middle others next → pieces ≡ piece ++ others → Follow Stands (suc count) place pieces next

-- the data of a layout fill what is between `place` and `end`: fixed octets, names, fixed octets
pub record IsLaidOut (message : List ℕ) (layout : LayoutOf) (place end : ℕ) (rdata : List ℕ) : Type 0 where
  pub names : List ℕ
  pub behind : ℕ
  pub names_stand : Follow (StandsAt message end) layout.names (place + layout.before) names behind
  pub first_octets : place + layout.before ≤ end
  pub last_octets : behind + layout.behind ≡ end
  pub expanded : rdata ≡ slice_range message place (place + layout.before) ++ names ++ slice_range message behind end

-- the data of a type between `place` and `end`, with their names expanded
abbrev pub IsData : List ℕ → ℕ → ℕ → ℕ → List ℕ → Type 0
IsData message rtype place end rdata =
    MatchOption (layout_of rtype) (rdata ≡ slice_range message place end) (λ layout. IsLaidOut message layout place end rdata)

-- a record whose fixed fields stand at a place is kept, or read over
pub data Keeps (message owner : List ℕ) (fields end : ℕ) : List Rr → Type 0 where
  kept : {rdata : List ℕ} → keeps message fields ≡ true → IsData message (word_at message fields) (fields + 10) end rdata
      → Keeps message owner fields end (rr_of message owner fields rdata ∷ [])
  read_over : keeps message fields ≡ false → Keeps message owner fields end []

-- a record stands at a place: its owner, ten octets of fixed fields, and as many octets of data as RDLENGTH says (RFC 1035 4.1.3)
pub record RecordAt (message : List ℕ) (place : ℕ) (records : List Rr) (next : ℕ) : Type 0 where
  pub owner : List ℕ
  pub fields : ℕ
  pub owner_stands : StandsAt message (length message) place owner fields
  pub rdlength : next ≡ fields + 10 + word_at message (fields + 8)
  pub within : next ≤ length message
  pub keeps : Keeps message owner fields next records

-- a question stands at a place (RFC 1035 4.1.2)
pub record QuestionAt (message : List ℕ) (place : ℕ) (question : Question) (next : ℕ) : Type 0 where
  pub fields : ℕ
  pub name_stands : StandsAt message (length message) place question.name fields
  pub qtype : question.qtype ≡ word_at message fields
  pub qclass : question.qclass ≡ word_at message (fields + 2)
  pub four_octets : next ≡ fields + 4
  pub within : next ≤ length message

-- the header's identifier and flags (RFC 1035 4.1.1)
pub record HeaderOf (octets : List ℕ) (m : Message) : Type 0 where
  pub id : m.id ≡ word_at octets 0
  pub opcode : m.opcode ≡ word_at octets 2 / 2 ^ 11 % 16
  pub aa : m.aa ≡ flag (word_at octets 2) 10
  pub tc : m.tc ≡ flag (word_at octets 2) 9
  pub rd : m.rd ≡ flag (word_at octets 2) 8
  pub ra : m.ra ≡ flag (word_at octets 2) 7
  pub rcode : m.rcode ≡ word_at octets 2 % 16

-- the octets begin with a response of one question, and the message has its parts (RFC 1035 4.1)
pub record MessageOf (octets : List ℕ) (m : Message) : Type 0 where
  pub long : 12 ≤ length octets
  pub short : length octets ≤ 65535
  pub response : flag (word_at octets 2) 15 ≡ true
  pub one_question : word_at octets 4 ≡ 1
  pub header : HeaderOf octets m
  pub answers : ℕ
  pub authorities : ℕ
  pub additionals : ℕ
  pub behind : ℕ
  pub question : QuestionAt octets 12 m.question answers
  pub answer : Follow (RecordAt octets) (word_at octets 6) answers m.answer authorities
  pub authority : Follow (RecordAt octets) (word_at octets 8) authorities m.authority additionals
  pub additional : Follow (RecordAt octets) (word_at octets 10) additionals m.additional behind
