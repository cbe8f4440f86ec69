-- SPDX-License-Identifier: MIT
-- What C offers, and what it is told of it.
use Rattle.std.specs.Prelude.{◌≡◌, ℕ, ◌+◌, ◌-◌, ◌^◌, min, ◌<◌, ◌≤◌, ◌==◌, ◌⊎◌, Bool, true, false, if◌then◌else◌, List, [], ◌∷◌, ◌++◌, length, reverse, filter, slice_get, Option, Some}
use Rattle.std.specs.List.{All}
use Rattle.std.specs.Option.{option_map}
use Rattle.rrc_name.specs.Wire.{folded, IsWireForm}
use Rattle.rrc_name.specs.declared.slot.Slot.{Slot}
use Rattle.rrc_name.specs.declared.slot.Slot.TheVariants.{Set, Nx, Failed}
use Rattle.rrc_wire.specs.Fault.{number_of}
use Rattle.rrc_wire.specs.FirstFault.{FirstFault}
use Rattle.rrc_wire.specs.Grammar.{MessageOf}
use Rattle.rrc_wire.specs.declared.fault.WireFault.{WireFault}
use Rattle.rrc_wire.specs.declared.message.Message.{Message}
use Rattle.rrc_history.specs.Fits.{OfferOf}
use Rattle.rrc_history.specs.Past.{entry_of}
use Rattle.rrc_history.specs.declared.body.Body.{Body}
use Rattle.rrc_history.specs.declared.body.Body.TheVariants.{Positive, Negative, Failure}
use Rattle.rrc_history.specs.declared.body.Trust.{Trust}
use Rattle.rrc_history.specs.declared.body.Trust.TheVariants.{Additional, NonAuthoritativeAnswer, Authority, AuthoritativeAnswer}
use Rattle.rrc_history.specs.declared.event.Outcome.{Outcome}
use Rattle.rrc_history.specs.declared.event.Outcome.TheVariants.{Kept, Cleared, LessTrusted}
use Rattle.rrc_history.specs.declared.event.Reply.{Reply}
use Rattle.rrc_history.specs.declared.event.Reply.TheVariants.{Fresh, NoData, NxDomain, Miss}
use Rattle.rrc_sets.specs.Limits.{LimitsAre}
use Rattle.rrc_sets.specs.Message.{Brings}
use Rattle.rrc_sets.specs.declared.limits.Limits.{Limits}
use Rattle.rrc_share.specs.CacheShelf.{CacheShelfOf}
use Rattle.rrc_shelf.specs.Asks.{data_text, record_of, text_of, told_of, IsFilled}
use Rattle.rrc_shelf.specs.Checks.{unless, Check, Due, IsDone, Passes, Refuses}
use Rattle.rrc_shelf.specs.Refusals.{division_checks, is_seed, message_checks, reply_check, room_check, wire_check, IsFoldedName, WriteDue}
use Rattle.rrc_shelf.specs.Shelves.{keyed_part_of, IsLeftAs, MakesOffer}
use Rattle.rrc_shelf.specs.declared.counts.Counts.{Counts}
use Rattle.rrc_shelf.specs.declared.folded_name.FoldedName.{FoldedName}
use Rattle.rrc_shelf.specs.declared.reading.Placed.{Placed}
use Rattle.rrc_shelf.specs.declared.reading.Reading.{Reading}
use Rattle.rrc_shelf.specs.declared.reply_record.ReplyRecord.{ReplyRecord}
use Rattle.rrc_shelf.specs.declared.status.Status.TheVariants.{BadRules, BadSeed, OtherSeed}
use Rattle.rrc_shelf.specs.declared.terms.Division.{Division}
use Rattle.rrc_shelf.specs.declared.terms.FailureTerms.{FailureTerms}
use Rattle.rrc_shelf.specs.declared.terms.NegativeTerms.{NegativeTerms}
use Rattle.rrc_shelf.specs.declared.terms.ResponseTerms.{ResponseTerms}
use Rattle.rrc_shelf.specs.declared.terms.SetTerms.{SetTerms}

-- ---- one offer

-- the trust of a number, 1 to 4 from low to high
abbrev pub trust_of : ℕ → Trust
trust_of number = if number == 1 then Additional else (if number == 2 then NonAuthoritativeAnswer else (if number == 3 then Authority else AuthoritativeAnswer))

-- what a negative answer denies: data of its type, by 3, or the name, by 4
abbrev pub denied : NegativeTerms → Slot
denied negative = if negative.denial == 3 then Set negative.rtype else Nx

-- the number of what became of an offer
abbrev pub outcome_number : Outcome → ℕ
outcome_number Kept = 1
outcome_number Cleared = 2
outcome_number LessTrusted = 3

-- a set is offered, whose data stand in some octets each behind its length
pub record IsSetOffer (owner : List ℕ) (set : SetTerms) (octets : List ℕ) (offer : OfferOf) : Type 0 where
  pub items : List (List ℕ)
  pub stand : data_text items ≡ octets
  pub is : offer ≡ record {
    key = record { name = folded owner; class = set.rclass; slot = Set set.rtype };
    body = Positive (trust_of set.trust) set.ttl owner items;
    moment = set.moment;
  }

-- that a name has no data of a type, or does not exist, with the SOA record that says so
abbrev pub denial_offer : List ℕ → NegativeTerms → List ℕ → List ℕ → OfferOf
denial_offer name negative soa_owner soa = record {
  key = record { name = folded name; class = negative.rclass; slot = denied negative };
  body = Negative (trust_of negative.trust) negative.ttl soa_owner soa;
  moment = negative.moment;
}

-- that asking for data of a type failed
abbrev pub failure_offer : List ℕ → FailureTerms → OfferOf
failure_offer name failure =
    record { key = record { name = folded name; class = failure.rclass; slot = Failed failure.rtype }; body = Failure failure.ttl; moment = failure.moment }

-- an offer is written, which is one event, and what became of it is told by its number
pub record TakesOne (line : ℕ) (offer : OfferOf) (number : ℕ) (old new : CacheShelfOf) : Type 0 where
  pub outcome : Outcome
  pub made : MakesOffer old new (record { line = line; place = 0 }) offer outcome
  pub told : number ≡ outcome_number outcome

-- the same of an offer of a set
pub record TakesSet (owner : List ℕ) (set : SetTerms) (octets : List ℕ) (number : ℕ) (old new : CacheShelfOf) : Type 0 where
  pub offer : OfferOf
  pub is_offer : IsSetOffer owner set octets offer
  pub takes : TakesOne set.line offer number old new

-- ---- a whole message

-- one more outcome counted
abbrev pub count_more : Outcome → Counts → Counts
count_more Kept counts = record { kept = counts.kept + 1; cleared = counts.cleared; outranked = counts.outranked }
count_more Cleared counts = record { kept = counts.kept; cleared = counts.cleared + 1; outranked = counts.outranked }
count_more LessTrusted counts = record { kept = counts.kept; cleared = counts.cleared; outranked = counts.outranked + 1 }

-- how many offers were kept, cleared and outranked
abbrev pub counts_of : List Outcome → Counts
counts_of [] = record { kept = 0; cleared = 0; outranked = 0 }
counts_of (outcome ∷ before) = count_more outcome (counts_of before)

-- offers were written, each as one event with its place among them; the last offer comes first
abbrev pub Takes : ℕ → List OfferOf → List Outcome → CacheShelfOf → CacheShelfOf → Type 0
Takes line [] [] old new = new ≡ old
Takes line [] (outcome ∷ before) old new = ⊥
Takes line (offer ∷ earlier) [] old new = ⊥
Takes line (offer ∷ earlier) (outcome ∷ before) old new =
    (middle : CacheShelfOf) × Takes line earlier before old middle × MakesOffer middle new (record { line = line; place = length earlier }) offer outcome

-- all offers were written, and what became of them is counted
pub record TakesAll (line : ℕ) (offers : List OfferOf) (counts : Counts) (old new : CacheShelfOf) : Type 0 where
  pub outcomes : List Outcome
  pub takes : Takes line (reverse offers) outcomes old new
  pub counted : counts ≡ counts_of outcomes

-- all offers are of one moment
abbrev pub AreAt : ℕ → List OfferOf → Type 0
AreAt at offers = All (λ offer. offer.moment ≡ at) offers

-- the first of the offers were written, and what became of them is counted; the next one, which
-- there is, was refused by this number at their moment
pub record TakesFirst (number line at : ℕ) (offers : List OfferOf) (counts : Counts) (old new : CacheShelfOf) : Type 0 where
  pub taken : List OfferOf
  pub next : OfferOf
  pub others : List OfferOf
  pub parts : offers ≡ taken ++ next ∷ others
  pub middle : CacheShelfOf
  pub all : TakesAll line taken counts old middle
  pub due : WriteDue middle at number
  pub left : IsLeftAs middle new

-- what the message offers that some octets are
pub record AreOffered (octets zone : List ℕ) (terms : ResponseTerms) (offers : List OfferOf) : Type 0 where
  pub zone_is : IsWireForm zone
  pub limits : Limits
  pub are_limits : LimitsAre limits terms.limits.cap terms.limits.negative_cap terms.limits.recheck
  pub brought : Brings limits octets zone terms.moment offers

-- all offers
abbrev pub whole : List OfferOf → List OfferOf
whole offers = offers

-- what a message offers was written, or a share of it
pub record TakesMessage (share : List OfferOf → List OfferOf) (octets zone : List ℕ) (terms : ResponseTerms) (counts : Counts) (old new : CacheShelfOf) : Type 0 where
  pub offers : List OfferOf
  pub offered : AreOffered octets zone terms offers
  pub takes : TakesAll terms.line (share offers) counts old new

-- the first of it was written, and then it was refused by this number
pub record TakesBeginning (share : List OfferOf → List OfferOf) (number : ℕ) (octets zone : List ℕ) (terms : ResponseTerms) (counts : Counts) (old new : CacheShelfOf) : Type 0 where
  pub offers : List OfferOf
  pub offered : AreOffered octets zone terms offers
  pub takes : TakesFirst number terms.line terms.moment (share offers) counts old new

-- nothing was written and nothing counted
pub record TakesNone (counts : Counts) (old new : CacheShelfOf) : Type 0 where
  pub counted : counts ≡ counts_of []
  pub kept : new ≡ old

-- what a refusal by this number leaves: a check failed and nothing was written, or all passed and
-- the first of it was
abbrev pub TakesSome : List Check → (List OfferOf → List OfferOf) → ℕ → List ℕ → List ℕ → ResponseTerms → Counts → CacheShelfOf → CacheShelfOf → Type 0
TakesSome checks share number octets zone terms counts old new =
    (TakesNone counts old new × Refuses checks number) ⊎ (Passes checks × TakesBeginning share number octets zone terms counts old new)

-- how many offers were counted
abbrev pub total : Counts → ℕ
total counts = counts.kept + counts.cleared + counts.outranked

-- ---- a part's share of a message
-- What C offers of a message to a shelf that is one of many: that of the names which lie in its
-- part.

-- the offers under names that lie in a part, of so many parts, by a seed
abbrev pub lying_in : ℕ → List ℕ → ℕ → List OfferOf → List OfferOf
lying_in parts seed part offers = filter (λ offer. keyed_part_of seed offer.key.name parts == part) offers

-- there are 1 to 64 parts, and this is one of them
pub record IsPart (parts part : ℕ) : Type 0 where
  pub some : 1 ≤ parts
  pub few : parts ≤ 64
  pub below : part < parts

-- what lies in the part of the terms
abbrev pub own_share : ResponseTerms → List OfferOf → List OfferOf
own_share terms offers = lying_in terms.parts.count terms.parts.seed terms.part offers

-- the checks of a call that offers such a share to a shelf with this seed
abbrev pub part_checks : List ℕ → List ℕ → ResponseTerms → List ℕ → List Check
part_checks octets zone terms seed =
    unless BadRules (IsPart terms.parts.count terms.part)
    ∷ unless BadSeed (is_seed terms.parts.seed ≡ true)
    ∷ message_checks octets zone terms.limits ++ (unless OtherSeed (terms.parts.seed ≡ seed) ∷ [])

-- ---- faults of a message

-- 0 where octets are a message, and else the number of their first fault
abbrev pub TellsFault : List ℕ → ℕ → Type 0
TellsFault octets number =
    ((number ≡ 0) × ((message : Message) × MessageOf octets message)) ⊎ ((fault : WireFault) × FirstFault octets fault × (number ≡ number_of fault))

-- ---- an offer that was read
-- What C is told of an offer that was read: the reply that it makes once it is kept.

-- a moment so many seconds after another one, at most the last that a number can tell
abbrev pub later : ℕ → ℕ → ℕ
later at seconds = min (at + seconds) (2 ^ 64 - 1)

-- that there are no data of a type, or no such name
abbrev pub denial_of : Slot → List ℕ → List ℕ → ℕ → Reply
denial_of Nx owner soa ttl = NxDomain (record { owner = owner; octets = soa }) ttl
denial_of slot owner soa ttl = NoData (record { owner = owner; octets = soa }) ttl

-- a body under a slot as the reply that it makes at its moment, for its whole TTL
abbrev pub reply_by : Slot → ℕ → Body → Reply
reply_by slot at (Positive trust ttl owner items) = Fresh (record { owner = owner; items = items }) ttl
reply_by slot at (Negative trust ttl owner soa) = denial_of slot owner soa ttl
reply_by slot at (Failure ttl) = Miss (Some (later at ttl))

abbrev pub reply_of_offer : OfferOf → Reply
reply_of_offer offer = reply_by offer.key.slot offer.moment offer.body

-- the type of a slot; a name that does not exist has none
abbrev pub type_of : Slot → ℕ
type_of (Set rtype) = rtype
type_of Nx = 0
type_of (Failed rtype) = rtype

-- the record of that reply, from an entry with the number 0 and the age 0
abbrev pub told_of_offer : OfferOf → ReplyRecord
told_of_offer offer = told_of (type_of offer.key.slot) (reply_of_offer offer) (record_of (Some (entry_of offer 0)) 0)

-- the parts and the seed that a reading was made for
abbrev pub division_of : Reading → Division
division_of reading = record { count = reading.parts; seed = reading.seed }

-- the name and the record tell an offer of a reading
pub record TellsNameAndRecord (reading : Reading) (offer : OfferOf) (name : FoldedName) (told : ReplyRecord) : Type 0 where
  pub name_is : IsFoldedName offer.key.name (division_of reading) name
  pub record_is : told ≡ told_of_offer offer

-- so they do, and the buffer; or that has no room, and is as it was
abbrev pub TellsOfferOr : Bool → Reading → OfferOf → FoldedName → ReplyRecord → List ℕ → List ℕ → Type 0
TellsOfferOr true reading offer name told before after = TellsNameAndRecord reading offer name told × IsFilled before (text_of (reply_of_offer offer)) after
TellsOfferOr false reading offer name told before after = TellsNameAndRecord reading offer name told × (after ≡ before)

-- when an offer of a reading is told to a buffer of so many octets, and when that is refused with
-- what
abbrev pub OfferDue : Reading → OfferOf → ℕ → ℕ → Type 0
OfferDue reading offer room =
    Due (reply_check (reply_of_offer offer) ∷ division_checks (division_of reading) ++ (wire_check offer.key.name ∷ room_check (reply_of_offer offer) room ∷ [])) IsDone

-- the offer of a reading with a number, counted from 0, if there is one
abbrev pub offer_in : Reading → ℕ → Option OfferOf
offer_in reading index = option_map (λ (one : Placed). one.offer) (slice_get reading.placed.items index)
