-- SPDX-License-Identifier: MIT
-- What C asks, and what it is told.
use Rattle.std.specs.Prelude.{◌≡◌, ℕ, ◌/◌, ◌%◌, ◌^◌, ◌<◌, ◌≤◌, ◌==◌, Bool, true, false, not, ◌&&◌, ◌||◌, if◌then◌else◌, List, [], ◌∷◌, ◌++◌, length, take, drop, Option, None, Some, IfSome}
use Rattle.rrc_name.specs.declared.slot.Slot.{Slot}
use Rattle.rrc_name.specs.declared.slot.Slot.TheVariants.{Set, Nx, Failed}
use Rattle.rrc_history.specs.Asked.{AskOf}
use Rattle.rrc_history.specs.Judged.{answering, governing}
use Rattle.rrc_history.specs.Lives.{rank_of, ttl_of}
use Rattle.rrc_history.specs.Past.{found, held, reply_to}
use Rattle.rrc_history.specs.declared.ask.Mode.{Mode}
use Rattle.rrc_history.specs.declared.ask.Mode.TheVariants.{NoStale, Failed, Now}
use Rattle.rrc_history.specs.declared.ask.Purpose.{Purpose}
use Rattle.rrc_history.specs.declared.ask.Purpose.TheVariants.{Any, Answer}
use Rattle.rrc_history.specs.declared.body.Body.{Body}
use Rattle.rrc_history.specs.declared.body.Body.TheVariants.{Positive, Negative, Failure}
use Rattle.rrc_history.specs.declared.event.Reply.{Reply}
use Rattle.rrc_history.specs.declared.event.Reply.TheVariants.{Fresh, Stale, NoData, NxDomain, Miss}
use Rattle.rrc_history.specs.declared.snapshot.Entry.{Entry}
use Rattle.rrc_cache.specs.Ages.{StandsWithin}
use Rattle.rrc_cache.specs.Part.{past_of}
use Rattle.rrc_share.specs.CacheShelf.{CacheShelfOf}
use Rattle.rrc_shelf.specs.Shelves.{MakesAsk}
use Rattle.rrc_shelf.specs.declared.entry_record.EntryRecord.{EntryRecord}
use Rattle.rrc_shelf.specs.declared.folded_name.FoldedName.{FoldedName}
use Rattle.rrc_shelf.specs.declared.reply_record.ReplyRecord.{ReplyRecord}
use Rattle.rrc_shelf.specs.declared.stored.Stored.{Stored}
use Rattle.rrc_shelf.specs.declared.terms.Question.{Question}

-- ---- replies
-- A reply as C is told it: a record of numbers, and the octets of a buffer.

-- a datum behind its length, of 16 bits, the high octet first
abbrev pub datum : List ℕ → List ℕ
datum octets = length octets / 256 ∷ length octets % 256 ∷ octets

-- data, one behind another
abbrev pub data_text : List (List ℕ) → List ℕ
data_text [] = []
data_text (octets ∷ behind) = datum octets ++ data_text behind

-- a reply as it is told: what it is, by its number; for how many seconds it holds; from when on
-- asking that has failed may be tried again; and the owner, in wire form, and the data, those of a
-- set or the one of a SOA record
pub record ReplyFields : Type 0 where
  pub kind : ℕ
  pub left : ℕ
  pub retry_from : ℕ
  pub owner : List ℕ
  pub items : List (List ℕ)

abbrev pub fields_of : Reply → ReplyFields
fields_of (Fresh set left) = record { kind = 1; left = left; retry_from = 0; owner = set.owner; items = set.items }
fields_of (Stale set left) = record { kind = 2; left = left; retry_from = 0; owner = set.owner; items = set.items }
fields_of (NoData soa left) = record { kind = 3; left = left; retry_from = 0; owner = soa.owner; items = soa.octets ∷ [] }
fields_of (NxDomain soa left) = record { kind = 4; left = left; retry_from = 0; owner = soa.owner; items = soa.octets ∷ [] }
fields_of (Miss None) = record { kind = 5; left = 0; retry_from = 0; owner = []; items = [] }
fields_of (Miss (Some moment)) = record { kind = 6; left = 0; retry_from = moment; owner = []; items = [] }

-- the octets of a reply: its owner, and behind it its data
abbrev pub text_of : Reply → List ℕ
text_of reply = (fields_of reply).owner ++ data_text (fields_of reply).items

-- what is kept, by its number: 1 data, 3 that there are none of the type, 4 that the name does not
-- exist, 6 that asking failed
abbrev pub kind_of_denial : Slot → ℕ
kind_of_denial (Set rtype) = 3
kind_of_denial Nx = 4
kind_of_denial (Failed rtype) = 3

abbrev pub kind_of_body : Slot → Body → ℕ
kind_of_body slot (Positive trust ttl owner items) = 1
kind_of_body slot (Negative trust ttl soa_owner soa) = kind_of_denial slot
kind_of_body slot (Failure ttl) = 6

abbrev pub kind_of_entry : Entry → ℕ
kind_of_entry entry = kind_of_body entry.key.slot entry.body

-- the record of an entry of this age; of nothing all is 0
abbrev pub record_of : Option Entry → ℕ → EntryRecord
record_of None age = record { kind = 0; trust = 0; ttl = 0; moment = 0; number = 0; age = 0 }
record_of (Some entry) age =
    record { kind = kind_of_entry entry; trust = rank_of entry.body; ttl = ttl_of entry.body; moment = entry.moment; number = entry.number; age = age }

-- the record of a reply to a question of a type, from an entry
abbrev pub told_of : ℕ → Reply → EntryRecord → ReplyRecord
told_of rtype reply entry = record {
  kind = (fields_of reply).kind;
  rtype = rtype;
  left = (fields_of reply).left;
  retry_from = (fields_of reply).retry_from;
  owner_size = length (fields_of reply).owner;
  data_size = length (data_text (fields_of reply).items);
  entry = entry;
}

-- a buffer begins with these octets, and is behind them as it was
abbrev pub IsFilled : List ℕ → List ℕ → List ℕ → Type 0
IsFilled before text after = after ≡ text ++ drop (length text) before

-- each datum has at most as many octets as 16 bits can tell
abbrev pub AreNarrow : List (List ℕ) → Type 0
AreNarrow [] = Unit {0}
AreNarrow (octets ∷ behind) = (length octets ≤ 65535) × AreNarrow behind

-- data that a record and a buffer can tell: each is narrow, and the octets of all of them can be
-- counted
pub record AreTellable (items : List (List ℕ)) : Type 0 where
  pub narrow : AreNarrow items
  pub countable : length (data_text items) < 2 ^ 64

-- where a buffer begins with so many octets of one's own, it begins with them and these after
abbrev pub WritesOn : ℕ → List ℕ → List ℕ → List ℕ → Type 0
WritesOn size more old new = (before text : List ℕ) → length text ≡ size → IsFilled before text old → IsFilled before (text ++ more) new

-- ---- asks

-- the purpose of a number: 1 anything, 2 to answer a question
abbrev pub purpose_of : ℕ → Purpose
purpose_of number = if number == 1 then Any else Answer

-- the mode of a number: 1 nothing stale, 2 stale where asking has failed recently, 3 stale at once
abbrev pub mode_of : ℕ → Mode
mode_of number = if number == 1 then NoStale else (if number == 2 then Failed else Now)

-- the octets of a folded name's wire form
abbrev pub octets_of : FoldedName → List ℕ
octets_of name = take name.size name.octets

-- a question about a folded name
abbrev pub asked : FoldedName → Question → AskOf
asked name question =
    record { name = octets_of name; class = question.rclass; rtype = question.rtype; moment = question.moment; purpose = purpose_of question.purpose; mode = mode_of question.mode }

-- the numbers are of a purpose and of a mode
abbrev pub AreChoices : ℕ → ℕ → Type 0
AreChoices purpose mode = ((1 ≤ purpose) × (purpose ≤ 2)) × ((1 ≤ mode) × (mode ≤ 3))

-- the reply that a shelf has for a question
abbrev pub reply_of : CacheShelfOf → AskOf → Reply
reply_of shelf ask = reply_to shelf.shelf.part.snapshot (past_of shelf.shelf.part) ask

-- the entry that gives it, which a miss has none of
abbrev pub entry_for : CacheShelfOf → AskOf → Option Entry
entry_for shelf ask = answering (found shelf.shelf.part.snapshot (past_of shelf.shelf.part) ask) ask (reply_of shelf ask)

-- the record tells what is kept, if anything is, and behind how many others at most it stands, the
-- key touched last first
pub record TellsEntry (shelf : CacheShelfOf) (entry : Option Entry) (told : EntryRecord) : Type 0 where
  pub record_is : told ≡ record_of entry told.age
  pub stands : IfSome entry (λ one. StandsWithin shelf.shelf.part one.key told.age)

-- the record tells the reply that a shelf has for a question, and the entry that gives it
pub record TellsRecord (ask : AskOf) (shelf : CacheShelfOf) (told : ReplyRecord) : Type 0 where
  pub record_is : told ≡ told_of ask.rtype (reply_of shelf ask) told.entry
  pub entry_is : TellsEntry shelf (entry_for shelf ask) told.entry

-- the record and the buffer tell it
pub record TellsReply (ask : AskOf) (shelf : CacheShelfOf) (told : ReplyRecord) (before after : List ℕ) : Type 0 where
  pub tells : TellsRecord ask shelf told
  pub buffer_is : IsFilled before (text_of (reply_of shelf ask)) after

-- the record tells it, whose octets are more than the buffer has, which is as it was
pub record TellsSizeOf (ask : AskOf) (shelf : CacheShelfOf) (told : ReplyRecord) (before after : List ℕ) : Type 0 where
  pub tells : TellsRecord ask shelf told
  pub small : length before < length (text_of (reply_of shelf ask))
  pub untouched : after ≡ before

-- a reply was told, for which the buffer has room, or where that is too small only its size
abbrev pub TellsOr : Bool → AskOf → CacheShelfOf → ReplyRecord → List ℕ → List ℕ → Type 0
TellsOr true ask shelf told before after = (length (text_of (reply_of shelf ask)) ≤ length before) × TellsReply ask shelf told before after
TellsOr false ask shelf told before after = TellsSizeOf ask shelf told before after

-- one event was written, the question with the reply that the shelf had, which is what is told
pub record Answers (ask : AskOf) (line : ℕ) (told : ReplyRecord) (before after : List ℕ) (old new : CacheShelfOf) : Type 0 where
  pub made : MakesAsk old new (record { line = line; place = 0 }) ask (reply_of old ask)
  pub tells : TellsReply ask old told before after

-- a question was answered; or the buffer is too small, nothing was written, and only the size is told
abbrev pub AnswersOr : Bool → AskOf → ℕ → ReplyRecord → List ℕ → List ℕ → CacheShelfOf → CacheShelfOf → Type 0
AnswersOr true ask line told before after old new = Answers ask line told before after old new
AnswersOr false ask line told before after old new = (new ≡ old) × TellsSizeOf ask old told before after

-- ---- aliases
-- Whether the CNAME record of a name is told in place of what there is of a type.

-- the type of an alias
abbrev pub CNAME : ℕ
CNAME = 5

-- whether a type stands beside an alias, so that this does not lead on: CNAME itself and ANY (RFC
-- 1034 4.3.2), and RRSIG and NSEC, which the name of an alias has itself (RFC 4035 2.5)
abbrev pub is_beside_alias : ℕ → Bool
is_beside_alias rtype = rtype == CNAME || (rtype == 255 || (rtype == 46 || rtype == 47))

-- asking for the type has failed: a miss says so, or stale data that are told for that alone
abbrev pub has_failed : Reply → Bool
has_failed (Stale set left) = true
has_failed (Miss (Some retry_from)) = true
has_failed reply = false

-- whether a stale record will do: where that depends on a failure, on one of the type that was
-- asked for
abbrev pub alias_mode : Mode → Reply → Mode
alias_mode NoStale reply = NoStale
alias_mode Now reply = Now
alias_mode Failed reply = if has_failed reply then Now else NoStale

-- the question for the name's CNAME record, behind this reply to the question for the type
abbrev pub alias_ask : AskOf → Reply → AskOf
alias_ask ask reply = record { name = ask.name; class = ask.class; rtype = CNAME; moment = ask.moment; purpose = ask.purpose; mode = alias_mode ask.mode reply }

abbrev pub has_data : Reply → Bool
has_data (Fresh set left) = true
has_data (Stale set left) = true
has_data reply = false

-- the entries are one: each event stores one at most, so its number tells them apart
abbrev pub is_same_entry : Option Entry → Option Entry → Bool
is_same_entry None other = false
is_same_entry (Some entry) None = false
is_same_entry (Some entry) (Some other) = entry.number == other.number

-- of the record and what answers for the type, if anything does, the record governs, as of a set
-- and an NXDOMAIN: the later one does, unless the earlier is unexpired and of strictly higher rank
-- (RFC 2181 5.4.1; RFC 8767 7 tells what goes wrong otherwise)
abbrev pub is_preferred : Option Entry → Option Entry → ℕ → Bool
is_preferred alias other moment = is_same_entry alias (governing other alias moment)

-- the CNAME record is told in place of what there is of the type
abbrev pub is_alias_told : CacheShelfOf → AskOf → Bool
is_alias_told shelf ask =
    let alias = alias_ask ask (reply_of shelf ask) in
    not (is_beside_alias ask.rtype)
    && (has_data (reply_of shelf alias) && is_preferred (entry_for shelf alias) (entry_for shelf ask) ask.moment)

-- the question that is answered
unfoldable pub ask_or_alias : CacheShelfOf → AskOf → AskOf
ask_or_alias shelf ask = if is_alias_told shelf ask then alias_ask ask (reply_of shelf ask) else ask

-- ---- entries
-- What C is told of what the keys of a question hold.

-- what a shelf holds of a name, the question's class and a slot
abbrev pub held_at : CacheShelfOf → FoldedName → Question → Slot → Option Entry
held_at shelf name question slot =
    held shelf.shelf.part.snapshot (past_of shelf.shelf.part) (record { name = octets_of name; class = question.rclass; slot = slot })

-- it is told what the shelf holds: data of the type or that there are none, that the name does not
-- exist, that asking for the type failed
pub record TellsHeld (name : FoldedName) (question : Question) (stored : Stored) (shelf : CacheShelfOf) : Type 0 where
  pub set : TellsEntry shelf (held_at shelf name question (Set question.rtype)) stored.set
  pub nxdomain : TellsEntry shelf (held_at shelf name question Nx) stored.nxdomain
  pub failure : TellsEntry shelf (held_at shelf name question (Failed question.rtype)) stored.failure
