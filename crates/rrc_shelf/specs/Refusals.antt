-- SPDX-License-Identifier: MIT
-- The checks of each call, in order, and when each call is refused.
use Rattle.std.specs.Prelude.{◌≡◌, ℕ, ◌^◌, ◌<◌, ◌≤◌, ◌==◌, Bool, true, false, not, ◌&&◌, if◌then◌else◌, List, [], ◌∷◌, ◌++◌, length}
use Rattle.std.specs.List.{list_any, AllByRecursion}
use Rattle.rrc_name.specs.Wire.{folded, IsWireForm}
use Rattle.rrc_name.specs.WireFault.{IsFirstFaultOfWire}
use Rattle.rrc_name.specs.declared.fault.WireNameFault.{WireNameFault}
use Rattle.rrc_wire.specs.FirstFault.{FirstFault}
use Rattle.rrc_wire.specs.Grammar.{MessageOf}
use Rattle.rrc_wire.specs.Layout.{is_kept, is_kept_class}
use Rattle.rrc_wire.specs.Plain.{IsPlain}
use Rattle.rrc_wire.specs.declared.fault.WireFault.{WireFault}
use Rattle.rrc_wire.specs.declared.message.Message.{Message}
use Rattle.rrc_history.specs.Asked.{AskOf}
use Rattle.rrc_history.specs.Fits.{is_lifetime}
use Rattle.rrc_history.specs.Limits.{MayBeRules}
use Rattle.rrc_history.specs.Lives.{LAST_MOMENT}
use Rattle.rrc_history.specs.declared.event.Reply.{Reply}
use Rattle.rrc_sets.specs.Limits.{MayBeLimits}
use Rattle.rrc_cache.specs.Part.{PartOf}
use Rattle.rrc_share.specs.CacheShelf.{CacheShelfOf}
use Rattle.rrc_shelf.specs.Asks.{data_text, fields_of, octets_of, reply_of, text_of, AreChoices, AreTellable}
use Rattle.rrc_shelf.specs.Checks.{memory, number_of, unless, Check, Due, IsDone, IsDoneOrMemory}
use Rattle.rrc_shelf.specs.Shelves.{keyed_part_of, CanWriteBy, IsSpentBy}
use Rattle.rrc_shelf.specs.declared.counts.Bounds.{Bounds}
use Rattle.rrc_shelf.specs.declared.folded_name.FoldedName.{FoldedName}
use Rattle.rrc_shelf.specs.declared.status.Status.TheVariants.{HistoryFull, MomentTooLarge, BadRules, BadSeed, BadLimits, BadName, BadMessage, BadChoice, BadType, BadData, WrongBody, WideAnswer, OtherSeed}
use Rattle.rrc_shelf.specs.declared.terms.Division.{Division}
use Rattle.rrc_shelf.specs.declared.terms.FailureTerms.{FailureTerms}
use Rattle.rrc_shelf.specs.declared.terms.NegativeTerms.{NegativeTerms}
use Rattle.rrc_shelf.specs.declared.terms.Question.{Question}
use Rattle.rrc_shelf.specs.declared.terms.SetTerms.{SetTerms}
use Rattle.rrc_shelf.specs.declared.terms.ShelfRules.{ShelfRules}

-- ---- octets that are handed in

-- the octets are a name in wire form, or have a first fault
abbrev pub wire_check : List ℕ → Check
wire_check octets = record { number = number_of BadName; fails = (fault : WireNameFault) × IsFirstFaultOfWire octets fault; passes = IsWireForm octets }

-- the octets are a message, or have a first fault
abbrev pub message_check : List ℕ → Check
message_check octets =
    record { number = number_of BadMessage; fails = (fault : WireFault) × FirstFault octets fault; passes = (message : Message) × MessageOf octets message }

-- the octets are plain rdata of a type, each after its length
pub record AreData (rtype : ℕ) (octets : List ℕ) : Type 0 where
  pub items : List (List ℕ)
  pub stand : data_text items ≡ octets
  pub plain : AllByRecursion (IsPlain rtype) items

-- ---- making

-- one octet of the seed is not 0
unfoldable pub is_seed : List ℕ → Bool
is_seed seed = list_any (λ octet. not (octet == 0)) seed

-- the checks of the rules of a shelf
abbrev pub rules_checks : ShelfRules → List Check
rules_checks rules = unless BadRules (MayBeRules rules.capacity rules.chapter rules.max_stale) ∷ unless BadSeed (is_seed rules.seed ≡ true) ∷ []

-- the checks of a division of names: into 1 to 64 parts, under a seed
abbrev pub division_checks : Division → List Check
division_checks division = unless BadRules ((1 ≤ division.count) × (division.count ≤ 64)) ∷ unless BadSeed (is_seed division.seed ≡ true) ∷ []

-- ---- a name as C is handed it

-- the name is this one, folded and hashed under the seed of a division, with the part that it lies
-- in
pub record IsFoldedName (octets : List ℕ) (division : Division) (name : FoldedName) : Type 0 where
  pub made : 1 ≤ name.size
  pub octets_are : octets_of name ≡ folded octets
  pub seed_is : name.seed ≡ division.seed
  pub part_is : name.part ≡ keyed_part_of division.seed octets division.count

-- when a name is made, and when that is refused with what: never for want of memory
abbrev pub FoldingDue : List ℕ → Division → ℕ → Type 0
FoldingDue octets division = Due (division_checks division ++ (wire_check octets ∷ [])) IsDone

-- ---- events

-- the checks of a call that writes an event at a moment. While nothing is recorded, no chapter is
-- ever full
abbrev pub write_checks : CacheShelfOf → ℕ → List Check
write_checks shelf at =
    record { number = number_of HistoryFull; fails = IsSpentBy shelf.records shelf.shelf.part; passes = CanWriteBy shelf.records shelf.shelf.part }
    ∷ unless MomentTooLarge (at ≤ LAST_MOMENT) ∷ []

-- when an event is written at a moment, and when each refusal is returned
abbrev pub WriteDue : CacheShelfOf → ℕ → ℕ → Type 0
WriteDue shelf at = Due (write_checks shelf at) IsDoneOrMemory

-- the same, for an event that needs no memory
abbrev pub NoteDue : CacheShelfOf → ℕ → ℕ → Type 0
NoteDue shelf at = Due (write_checks shelf at) IsDone

-- when a recording starts, and when each refusal is returned: HistoryFull exactly if the part is
-- not recorded yet and the number of its chapter is 2^62
abbrev pub RecordDueBy : Bool → PartOf → ℕ → Type 0
RecordDueBy true part = IsDone
RecordDueBy false part = Due (record { number = number_of HistoryFull; fails = part.number ≡ 2 ^ 62; passes = part.number < 2 ^ 62 } ∷ []) IsDoneOrMemory

abbrev pub RecordDue : CacheShelfOf → ℕ → Type 0
RecordDue shelf = RecordDueBy shelf.records shelf.shelf.part

-- ---- asking

-- the cache may hold something for such a question: its class is kept, and its type is not 0 (RFC
-- 6895 3.1). Even if data of the type are not kept, the cache may hold an NXDOMAIN of the name
unfoldable pub may_be_known : ℕ → ℕ → Bool
may_be_known rtype class = is_kept_class class && not (rtype == 0)

-- the name was made, under the seed of the shelf
abbrev pub folded_checks : FoldedName → List ℕ → List Check
folded_checks name seed = unless BadName (1 ≤ name.size) ∷ unless OtherSeed (name.seed ≡ seed) ∷ []

-- the checks of a question to a shelf whose names are hashed under a seed
abbrev pub question_checks : FoldedName → Question → List ℕ → List Check
question_checks name question seed =
    unless BadChoice (AreChoices question.purpose question.mode) ∷ unless BadType (may_be_known question.rtype question.rclass ≡ true) ∷ folded_checks name seed

-- a record can hold the sizes of the reply
abbrev pub reply_check : Reply → Check
reply_check reply = unless WideAnswer (AreTellable (fields_of reply).items)

-- a buffer of this size has room for the reply; if it has not, the call returns 16
abbrev pub room_check : Reply → ℕ → Check
room_check reply room = record { number = 16; fails = room < length (text_of reply); passes = length (text_of reply) ≤ room }

-- the checks of a reply that is written to a buffer of this size
abbrev pub telling_checks : Reply → ℕ → List Check
telling_checks reply room = reply_check reply ∷ room_check reply room ∷ []

-- when a shelf that has this reply answers a question, and when each refusal is returned. Memory is
-- allocated only while the history is recorded, because the history then keeps the question
abbrev pub AnswerDue : Bool → CacheShelfOf → Reply → ℕ → ℕ → ℕ → Type 0
AnswerDue true shelf reply room at = Due (memory ∷ telling_checks reply room) (WriteDue shelf at)
AnswerDue false shelf reply room at = Due (telling_checks reply room) (NoteDue shelf at)

-- when a question is answered by this ask, and when each refusal is returned
abbrev pub AskDue : FoldedName → Question → List ℕ → AskOf → ℕ → CacheShelfOf → ℕ → Type 0
AskDue name question seed ask room shelf = Due (question_checks name question seed) (AnswerDue shelf.records shelf (reply_of shelf ask) room question.moment)

-- when a peek returns the reply to this ask, and when each refusal is returned. A peek allocates
-- nothing
abbrev pub PeekDue : FoldedName → Question → List ℕ → AskOf → ℕ → CacheShelfOf → ℕ → Type 0
PeekDue name question seed ask room shelf = Due (question_checks name question seed) (Due (telling_checks (reply_of shelf ask) room) IsDone)

-- when a call returns what the keys of a question hold, and when each refusal is returned. The call
-- allocates nothing
abbrev pub StoredDue : FoldedName → Question → List ℕ → ℕ → Type 0
StoredDue name question seed = Due (unless BadType (may_be_known question.rtype question.rclass ≡ true) ∷ folded_checks name seed) IsDone

-- ---- offering

-- the number is that of a rank
abbrev pub IsTrust : ℕ → Type 0
IsTrust number = (1 ≤ number) × (number ≤ 4)

-- the checks of an RRset that is offered
abbrev pub set_checks : List ℕ → SetTerms → List ℕ → List Check
set_checks owner set octets =
    unless BadChoice (IsTrust set.trust)
    ∷ unless BadType (is_kept set.rtype set.rclass ≡ true)
    ∷ memory ∷ wire_check owner ∷ unless BadData (AreData set.rtype octets)
    ∷ unless WrongBody (1 ≤ length octets)
    ∷ unless WrongBody (is_lifetime set.ttl ≡ true) ∷ []

-- the type of SOA records (RFC 1035 3.2.2)
abbrev pub SOA : ℕ
SOA = 6

-- whether a denial is about something that is kept: data of a type in a class, or names of a class
unfoldable pub denies_kept : NegativeTerms → Bool
denies_kept negative = if negative.denial == 3 then is_kept negative.rtype negative.rclass else is_kept_class negative.rclass

-- the checks of a negative answer that is offered. It denies that there are data of the type, if
-- its number is 3, or that the name exists, if its number is 4
abbrev pub denial_checks : List ℕ → NegativeTerms → List ℕ → List ℕ → List Check
denial_checks name negative soa_owner soa =
    unless BadChoice (IsTrust negative.trust × ((3 ≤ negative.denial) × (negative.denial ≤ 4)))
    ∷ unless BadType (denies_kept negative ≡ true)
    ∷ memory ∷ wire_check name ∷ wire_check soa_owner
    ∷ unless BadData (IsPlain SOA soa)
    ∷ unless WrongBody (is_lifetime negative.ttl ≡ true) ∷ []

-- the checks of a failure that is offered
abbrev pub failure_checks : List ℕ → FailureTerms → List Check
failure_checks name failure =
    unless BadType (is_kept failure.rtype failure.rclass ≡ true) ∷ memory ∷ wire_check name ∷ unless WrongBody (is_lifetime failure.ttl ≡ true) ∷ []

-- ---- messages

-- the limits are in their ranges
abbrev pub AreLimits : Bounds → Type 0
AreLimits bounds = MayBeLimits bounds.cap bounds.negative_cap bounds.recheck

-- the checks of a message that was received from a zone's servers
abbrev pub message_checks : List ℕ → List ℕ → Bounds → List Check
message_checks octets zone bounds = unless BadLimits (AreLimits bounds) ∷ memory ∷ wire_check zone ∷ message_check octets ∷ []
