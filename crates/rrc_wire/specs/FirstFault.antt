-- SPDX-License-Identifier: MIT
-- The first fault of some octets: what stands before a place, and which rule is broken there (RFC 1035 4.1).
use Rattle.std.specs.Prelude.{◌≡◌, ◌<◌, ◌≤◌, ℕ, ◌+◌, true, false, List, length, slice_index, MatchOption}
use Rattle.rrc_wire.specs.declared.fault.WireFault.{WireFault}
use Rattle.rrc_wire.specs.declared.fault.WireFault.TheVariants.{Short, ReservedLabel, BadPointer, NameTooLong, BadData, NotResponse, NotOneQuestion, TooLong}
use Rattle.rrc_wire.specs.declared.question.Question.{Question}
use Rattle.rrc_wire.specs.declared.record.Rr.{Rr}
use Rattle.rrc_wire.specs.Layout.{LayoutOf, layout_of}
use Rattle.rrc_wire.specs.Reading.{word_at}
use Rattle.rrc_wire.specs.Header.{flag}
use Rattle.rrc_wire.specs.Item.{RunOf, to_end, in_data, target_at}
use Rattle.rrc_wire.specs.Record.{keeps}
use Rattle.rrc_wire.specs.Grammar.{Follow, StandsAt, RecordAt, QuestionAt}

-- ---- names (RFC 1035 2.3.4, 4.1.4)

-- the length octet of a label stands at a place of a run
pub record BeginsLabel (message : List ℕ) (run : RunOf) (place octets : ℕ) : Type 0 where
  pub within : place < run.end
  pub octets_are : slice_index message place ≡ octets
  pub some : 1 ≤ octets
  pub few : octets ≤ 63

-- a whole pointer stands at a place of a run, and leads to a target
pub record BeginsPointer (message : List ℕ) (run : RunOf) (place target : ℕ) : Type 0 where
  pub within : place + 2 ≤ run.end
  pub top_bits : 192 ≤ slice_index message place
  pub target_is : target ≡ target_at message place

-- `NameFails message run size place fault`: a name that has `size` octets before a place of a run has this fault there or behind it
pub data NameFails (message : List ℕ) : RunOf → ℕ → ℕ → WireFault → Type 0 where
  -- no octet stands there
  missing : {run : RunOf} {size place : ℕ} → run.end ≤ place → NameFails message run size place run.past
  -- the high bits of the octet are 01 or 10
  reserved : {run : RunOf} {size place : ℕ} → place < run.end → 64 ≤ slice_index message place → slice_index message place < 192
      → NameFails message run size place ReservedLabel
  -- a label brings the name, with the zero octet that ends it, past 255 octets
  too_long : {run : RunOf} {size place octets : ℕ} → BeginsLabel message run place octets → 255 < size + octets + 2
      → NameFails message run size place NameTooLong
  -- a label is cut off
  label_cut_off : {run : RunOf} {size place octets : ℕ} → BeginsLabel message run place octets → size + octets + 2 ≤ 255
      → run.end < place + 1 + octets → NameFails message run size place run.past
  -- a pointer is cut off
  pointer_cut_off : {run : RunOf} {size place : ℕ} → place < run.end → 192 ≤ slice_index message place → run.end < place + 2
      → NameFails message run size place run.past
  -- a pointer leads to no place below the one where its run began
  bad_pointer : {run : RunOf} {size place target : ℕ} → BeginsPointer message run place target → run.start ≤ target
      → NameFails message run size place BadPointer
  -- a label stands there, and the fault is behind it
  behind_label : {run : RunOf} {size place octets : ℕ} {fault : WireFault} → BeginsLabel message run place octets → size + octets + 2 ≤ 255
      → place + 1 + octets ≤ run.end → NameFails message run (size + 1 + octets) (place + 1 + octets) fault → NameFails message run size place fault
  -- a pointer stands there, and the fault is where it leads, in a run of its own up to the message's end
  behind_pointer : {run : RunOf} {size place target : ℕ} {fault : WireFault} → BeginsPointer message run place target → target < run.start
      → NameFails message (to_end message target) size target fault → NameFails message run size place fault

-- the name that is to stand at a place of the message has a fault
abbrev pub NameFailsAt : List ℕ → ℕ → WireFault → Type 0
NameFailsAt message place fault = NameFails message (to_end message place) 0 place fault

-- ---- what stands one after another

-- of so many pieces one after another, those before one stand, and that one has a fault
pub record OneFails {A : Type 0} (Stands : ℕ → List A → ℕ → Type 0) (Fails : ℕ → WireFault → Type 0) (count place : ℕ) (fault : WireFault) : Type 0 where
  pub before : ℕ
  pub pieces : List A
  pub middle : ℕ
  pub fewer : before < count
  pub stand : Follow Stands before place pieces middle
  pub fails : Fails middle fault

-- ---- records (RFC 1035 4.1.3)

-- the data of a layout between `place` and `end` have a fault
pub data LayoutFails (message : List ℕ) (layout : LayoutOf) (place end : ℕ) : WireFault → Type 0 where
  -- the first fixed octets are cut off
  first : end < place + layout.before → LayoutFails message layout place end BadData
  -- a name has a fault; one whose first run passes the end of the data is bad data
  name : {fault : WireFault} → place + layout.before ≤ end
      → OneFails (StandsAt message end) (λ at. NameFails message (in_data at end) 0 at) layout.names (place + layout.before) fault
      → LayoutFails message layout place end fault
  -- behind the names there are more or fewer octets than the last fixed ones
  last : {names : List ℕ} {behind : ℕ} → place + layout.before ≤ end → Follow (StandsAt message end) layout.names (place + layout.before) names behind
      → (behind + layout.behind ≡ end → ⊥) → LayoutFails message layout place end BadData

-- the data of a type have a fault, which only those of a layout can
abbrev pub DataFail : List ℕ → ℕ → ℕ → ℕ → WireFault → Type 0
DataFail message rtype place end fault = MatchOption (layout_of rtype) ⊥ (λ layout. LayoutFails message layout place end fault)

-- the record that is to stand at a place has a fault
pub data RecordFails (message : List ℕ) (place : ℕ) : WireFault → Type 0 where
  owner : {fault : WireFault} → NameFailsAt message place fault → RecordFails message place fault
  -- its ten octets of fixed fields are cut off
  fields : {owner : List ℕ} {fields : ℕ} → StandsAt message (length message) place owner fields → length message < fields + 10
      → RecordFails message place Short
  -- its data are cut off
  rdata : {owner : List ℕ} {fields : ℕ} → StandsAt message (length message) place owner fields → fields + 10 ≤ length message
      → length message < fields + 10 + word_at message (fields + 8) → RecordFails message place Short
  -- its data are read, since it is kept, and have a fault
  data_fail : {owner : List ℕ} {fields end : ℕ} {fault : WireFault} → StandsAt message (length message) place owner fields
      → end ≡ fields + 10 + word_at message (fields + 8) → end ≤ length message → keeps message fields ≡ true
      → DataFail message (word_at message fields) (fields + 10) end fault → RecordFails message place fault

-- one of so many records has a fault
abbrev pub SectionFails : List ℕ → ℕ → ℕ → WireFault → Type 0
SectionFails message count place fault = OneFails (RecordAt message) (RecordFails message) count place fault

-- ---- the question (RFC 1035 4.1.2), the header and the whole (RFC 1035 4.1.1)

-- the question that is to stand at a place has a fault
pub data QuestionFails (message : List ℕ) (place : ℕ) : WireFault → Type 0 where
  name : {fault : WireFault} → NameFailsAt message place fault → QuestionFails message place fault
  -- its type and class are cut off
  fields : {name : List ℕ} {fields : ℕ} → StandsAt message (length message) place name fields → length message < fields + 4
      → QuestionFails message place Short

-- the octets are as many as a message may have, and have room for a header
pub record HaveHeader (octets : List ℕ) : Type 0 where
  pub long : 12 ≤ length octets
  pub short : length octets ≤ 65535

-- the header is that of a response with one question
pub record BeginResponse (octets : List ℕ) : Type 0 where
  pub header : HaveHeader octets
  pub response : flag (word_at octets 2) 15 ≡ true
  pub one_question : word_at octets 4 ≡ 1

-- the first fault of some octets: all that is read before it is right
pub data FirstFault (octets : List ℕ) : WireFault → Type 0 where
  too_long : 65535 < length octets → FirstFault octets TooLong
  no_header : length octets < 12 → FirstFault octets Short
  no_response : HaveHeader octets → flag (word_at octets 2) 15 ≡ false → FirstFault octets NotResponse
  not_one_question : HaveHeader octets → flag (word_at octets 2) 15 ≡ true → (word_at octets 4 ≡ 1 → ⊥) → FirstFault octets NotOneQuestion
  question : {fault : WireFault} → BeginResponse octets → QuestionFails octets 12 fault → FirstFault octets fault
  answer : {fault : WireFault} {question : Question} {answers : ℕ} → BeginResponse octets → QuestionAt octets 12 question answers
      → SectionFails octets (word_at octets 6) answers fault → FirstFault octets fault
  authority : {fault : WireFault} {question : Question} {answer : List Rr} {answers authorities : ℕ} → BeginResponse octets
      → QuestionAt octets 12 question answers → Follow (RecordAt octets) (word_at octets 6) answers answer authorities
      → SectionFails octets (word_at octets 8) authorities fault → FirstFault octets fault
  additional : {fault : WireFault} {question : Question} {answer authority : List Rr} {answers authorities additionals : ℕ} → BeginResponse octets
      → QuestionAt octets 12 question answers → Follow (RecordAt octets) (word_at octets 6) answers answer authorities
      → Follow (RecordAt octets) (word_at octets 8) authorities authority additionals
      → SectionFails octets (word_at octets 10) additionals fault → FirstFault octets fault
