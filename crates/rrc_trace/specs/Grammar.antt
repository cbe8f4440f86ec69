-- SPDX-License-Identifier: MIT
-- The lines of a trace, apart from how they are read: the tables of docs/FORMATS.md, "Traces".
use Rattle.std.specs.Prelude.{◌≡◌, ◌≤◌, ℕ, ◌+◌, ◌*◌, List, [], ◌∷◌, ◌++◌, length, Option, Some, None, Ok, true, fold, codes, if◌then◌else◌}
use Rattle.std.specs.List.{AllZip, AllByRecursion, join_with_byte, list_any}
use Rattle.hex.specs.Hex.{decode_of}
use Rattle.rrc_name.specs.Text.{Spells}
use Rattle.rrc_name.specs.Wire.{folded}
use Rattle.rrc_history.specs.Asked.{AskOf}
use Rattle.rrc_history.specs.Lives.{rank, LAST_MOMENT}
use Rattle.rrc_history.specs.declared.body.Trust.{Trust}
use Rattle.rrc_wire.specs.Layout.{is_kept}
use Rattle.rrc_wire.specs.Plain.{IsPlain}
use Rattle.rrc_wire.specs.SameRdata.{same_rdata}
use Rattle.rrc_trace.specs.declared.line.Line.{Line}
use Rattle.rrc_trace.specs.declared.line.Line.TheVariants as lines
use Rattle.rrc_trace.specs.declared.line.Put.{Put as PutLine}
use Rattle.rrc_trace.specs.declared.line.Failed.{Failed as FailedLine}
use Rattle.rrc_trace.specs.declared.line.Response.{Response as ResponseLine}
use Rattle.rrc_trace.specs.declared.line.Fetch.{Fetch as FetchLine}
use Rattle.rrc_text.specs.Grammar.{mode_word, purpose_word, AreSpaces, IsField, StandsApart}

-- digits spell a number in decimal: one digit or more, with zeros in front or none, and no sign
pub data SpellsNumber : List ℕ → ℕ → Type 0 where
  one_digit : {value : ℕ} → value ≤ 9 → SpellsNumber ((48 + value) ∷ []) value
  digit_more : {digits : List ℕ} {number value : ℕ} → SpellsNumber digits number → value ≤ 9
      → SpellsNumber (digits ++ (48 + value) ∷ []) (10 * number + value)

-- MOMENT: seconds, at most 2^40
pub record IsMoment (field : List ℕ) (moment : ℕ) : Type 0 where
  pub digits : SpellsNumber field moment
  pub few : moment ≤ LAST_MOMENT

-- a number of 16 bits
pub record IsWord (field : List ℕ) (number : ℕ) : Type 0 where
  pub digits : SpellsNumber field number
  pub few : number ≤ 65535

-- a type alone, which is of class IN, or a type, a slash and a class (RFC 1035 3.2)
pub data SpellsRtype : List ℕ → ℕ → ℕ → Type 0 where
  in_alone : {field : List ℕ} {rtype : ℕ} → IsWord field rtype → SpellsRtype field rtype 1
  with_class : {front behind : List ℕ} {rtype class : ℕ} → IsWord front rtype → IsWord behind class
      → SpellsRtype (front ++ 47 ∷ behind) rtype class

-- TYPE: a type whose records are kept in its class
pub record IsRtype (field : List ℕ) (rtype class : ℕ) : Type 0 where
  pub spelled : SpellsRtype field rtype class
  pub kept : is_kept rtype class ≡ true

-- TRUST: the rank, 1 to 4 (RFC 2181 5.4.1)
abbrev pub IsTrust : List ℕ → Trust → Type 0
IsTrust field trust = SpellsNumber field (rank trust)

-- TTL: seconds, in 32 bits (RFC 1035 4.1.3)
pub record IsTtl (field : List ℕ) (ttl : ℕ) : Type 0 where
  pub digits : SpellsNumber field ttl
  pub few : ttl ≤ 4294967295

-- octets, two hexadecimal digits each, of either case
pub record IsHex (digits octets : List ℕ) : Type 0 where
  pub some : 1 ≤ length digits
  pub spelled : decode_of digits ≡ Ok octets

-- an item, or the MESSAGE of a response: one octet or more, or a dash for none
pub data SpellsOctets : List ℕ → List ℕ → Type 0 where
  dash : SpellsOctets (codes "-") []
  hex : {digits octets : List ℕ} → IsHex digits octets → SpellsOctets digits octets

-- the MESSAGE of a fetch: a dash where no message came
pub data SpellsFetched : List ℕ → Option (List ℕ) → Type 0 where
  no_message : SpellsFetched (codes "-") None
  message : {digits octets : List ℕ} → IsHex digits octets → SpellsFetched digits (Some octets)

-- some items, and one more where none of them is the same (RFC 2181 5, RFC 3597 6)
abbrev pub with_item : ℕ → List (List ℕ) → List ℕ → List (List ℕ)
with_item rtype items item =
    if list_any (same_rdata rtype item) items then items else items ++ item ∷ []

-- ITEMS of a type: 1 to 256 with commas between, repeats counted, each of them plain data of the
-- type. Of items that are the same the first stays, in the order written
pub record AreItems (rtype : ℕ) (field : List ℕ) (items : List (List ℕ)) : Type 0 where
  pub pieces : List (List ℕ)
  pub written : List (List ℕ)
  pub between_commas : field ≡ join_with_byte 44 pieces
  pub some : 1 ≤ length pieces
  pub few : length pieces ≤ 256
  pub spelled : AllZip SpellsOctets pieces written
  pub plain : AllByRecursion (IsPlain rtype) written
  pub firsts : items ≡ fold (with_item rtype) [] written

-- fields are a line of one of these forms: the form's word, and behind it what it says, in order
pub data FieldsOf : List (List ℕ) → Line → Type 0 where
  put : {moment name rtype trust ttl items : List ℕ} {line : PutLine}
      → IsMoment moment line.moment → Spells name line.name → IsRtype rtype line.rtype line.class
      → IsTrust trust line.trust → IsTtl ttl line.ttl → AreItems line.rtype items line.items
      → FieldsOf (codes "put" ∷ moment ∷ name ∷ rtype ∷ trust ∷ ttl ∷ items ∷ []) (lines.Put line)
  -- the name of an ask is folded
  ask : {moment name rtype spelled : List ℕ} {line : AskOf}
      → IsMoment moment line.moment → Spells name spelled → line.name ≡ folded spelled
      → IsRtype rtype line.rtype line.class
      → FieldsOf
      (codes "ask" ∷ moment ∷ name ∷ rtype ∷ purpose_word line.purpose ∷ mode_word line.mode ∷ [])
      (lines.Ask line)
  response : {moment zone message : List ℕ} {line : ResponseLine}
      → IsMoment moment line.moment → Spells zone line.zone → SpellsOctets message line.octets
      → FieldsOf (codes "response" ∷ moment ∷ zone ∷ message ∷ []) (lines.Response line)
  fail : {moment name rtype : List ℕ} {line : FailedLine}
      → IsMoment moment line.moment → Spells name line.name → IsRtype rtype line.rtype line.class
      → FieldsOf (codes "fail" ∷ moment ∷ name ∷ rtype ∷ []) (lines.Fail line)
  fetch : {moment name rtype zone message : List ℕ} {line : FetchLine}
      → IsMoment moment line.moment → Spells name line.name → IsRtype rtype line.rtype line.class
      → Spells zone line.zone → SpellsFetched message line.octets
      → FieldsOf (codes "fetch" ∷ moment ∷ name ∷ rtype ∷ zone ∷ message ∷ []) (lines.Fetch line)
  sweep : {field : List ℕ} {moment : ℕ} → IsMoment field moment
      → FieldsOf (codes "sweep" ∷ field ∷ []) (lines.Sweep moment)
  checkpoint : FieldsOf (codes "checkpoint" ∷ []) lines.Checkpoint

-- the fields of octets: they stand apart by one or more spaces, and any number of spaces stands
-- at either end
pub data HasFields : List ℕ → List (List ℕ) → Type 0 where
  no_field : {spaces : List ℕ} → AreSpaces spaces → HasFields spaces []
  field_more : (spaces : List ℕ) {field behind : List ℕ} {fields : List (List ℕ)}
      → AreSpaces spaces → IsField field → StandsApart behind → HasFields behind fields
      → HasFields (spaces ++ (field ++ behind)) (field ∷ fields)

-- a line has at most 140,000 octets: LF not counted, a CR and spaces counted
abbrev pub MOST_OCTETS : ℕ
MOST_OCTETS = 140000

abbrev pub EndsWith : ℕ → List ℕ → Type 0
EndsWith octet octets = (front : List ℕ) × (octets ≡ front ++ octet ∷ [])

-- the octets of a line, by where its piece of the text ends: with its LF, before which a CR is
-- dropped, or with the text
pub data EndsLine : List ℕ → List ℕ → Type 0 where
  lf : {octets : List ℕ} → ¬ EndsWith 13 octets → length octets ≤ MOST_OCTETS
      → EndsLine (octets ++ 10 ∷ []) octets
  cr_lf : {octets : List ℕ} → length octets + 1 ≤ MOST_OCTETS → EndsLine (octets ++ 13 ∷ 10 ∷ []) octets
  text_end : {octets : List ℕ} → ¬ EndsWith 10 octets → length octets ≤ MOST_OCTETS
      → EndsLine octets octets

-- a piece of a text is a line: its octets before their end have the fields of that line
pub record IsLine (piece : List ℕ) (line : Line) : Type 0 where
  pub octets : List ℕ
  pub fields : List (List ℕ)
  pub ends : EndsLine piece octets
  pub apart : HasFields octets fields
  pub says : FieldsOf fields line
