-- SPDX-License-Identifier: MIT
-- What one reading of a message holds and says, and what is offered of it.
use Rattle.std.specs.Prelude.{◌≡◌, ℕ, zero, suc, ◌+◌, ◌^◌, ◌<◌, ◌==◌, ◌⊎◌, Bool, true, false, if◌then◌else◌, List, [], ◌∷◌, ◌++◌, map, filter, Option, None, Some, MatchOption}
use Rattle.std.specs.List.{list_any}
use Rattle.rrc_name.specs.Wire.{IsWireForm}
use Rattle.rrc_wire.specs.declared.message.Message.{Message}
use Rattle.rrc_history.specs.Fits.{OfferOf}
use Rattle.rrc_sets.specs.Kinds.{kind_of}
use Rattle.rrc_sets.specs.Limits.{LimitsAre}
use Rattle.rrc_sets.specs.Relevance.{AreDefault}
use Rattle.rrc_sets.specs.Relevant.{relevant_of}
use Rattle.rrc_sets.specs.RelevantMessage.{Answers, IsNoResponse, IsOfOtherQuery}
use Rattle.rrc_sets.specs.declared.kind.ResponseKind.{ResponseKind}
use Rattle.rrc_sets.specs.declared.kind.ResponseKind.TheVariants.{Answer, UnequalTtls, NoData, NxDomain, Referral, Alias, Failure, Unusable}
use Rattle.rrc_sets.specs.declared.limits.Limits.{Limits}
use Rattle.rrc_sets.specs.declared.query.Query.{Query}
use Rattle.rrc_sets.specs.declared.query.QueryFault.{QueryFault}
use Rattle.rrc_sets.specs.declared.query.QueryFault.TheVariants.{NoQuestion}
use Rattle.rrc_sets.specs.declared.relevance.RelevanceLimits.{RelevanceLimits}
use Rattle.rrc_share.specs.CacheShelf.{CacheShelfOf}
use Rattle.rrc_shelf.specs.Checks.{memory, number_of, unless, Check, Due, IsDone, OutOfMemory, Passes, Refuses}
use Rattle.rrc_shelf.specs.Offers.{division_of, own_share, part_checks, AreAt, AreOffered, TakesAll, TakesFirst, TakesMessage, TakesNone, TakesOne, TakesSome}
use Rattle.rrc_shelf.specs.Refusals.{division_checks, message_checks, wire_check, AreLimits, FoldingDue, IsFoldedName, WriteDue}
use Rattle.rrc_shelf.specs.Shelves.{keyed_part_of}
use Rattle.rrc_shelf.specs.declared.counts.Counts.{Counts}
use Rattle.rrc_shelf.specs.declared.folded_name.FoldedName.{FoldedName}
use Rattle.rrc_shelf.specs.declared.reading.Placed.{Placed}
use Rattle.rrc_shelf.specs.declared.reading.Reading.{Reading}
use Rattle.rrc_shelf.specs.declared.status.Status.TheVariants.{BadRules, OtherSeed}
use Rattle.rrc_shelf.specs.declared.summary.Summary.{Summary}
use Rattle.rrc_shelf.specs.declared.summary.SummaryRecord.{SummaryRecord}
use Rattle.rrc_shelf.specs.declared.terms.Division.{Division}
use Rattle.rrc_shelf.specs.declared.terms.ResponseTerms.{ResponseTerms}
use Rattle.rrc_shelf.specs.declared.terms.Share.{Share}
use Rattle.rrc_shelf.specs.declared.status.Status.TheVariants as statuses

-- ---- what a response says
-- What a response says beside what it offers, and what C is told of that.

-- the limits of relevance of a call: those that are set by default, but for what it chooses
pub record AreChosen (terms : ResponseTerms) (relevance : RelevanceLimits) : Type 0 where
  pub default : RelevanceLimits
  pub are_default : AreDefault default
  pub chosen : relevance ≡ record default { lowest_ttl = terms.lowest_ttl; clears_denied = terms.clears_denied }

-- what a message says for a zone, by limits of relevance
abbrev pub summary_of : RelevanceLimits → Message → List ℕ → Summary
summary_of relevance message zone = record { rcode = message.rcode; aa = message.aa; tc = message.tc; kind = kind_of message zone relevance }

-- the number of a kind
abbrev pub number_of_kind : ResponseKind → ℕ
number_of_kind Answer = 1
number_of_kind UnequalTtls = 2
number_of_kind NoData = 3
number_of_kind NxDomain = 4
number_of_kind (Referral zone) = 5
number_of_kind (Alias name) = 6
number_of_kind Failure = 7
number_of_kind Unusable = 8

-- the name of a kind, if it has one: the zone that a referral leads to, or the name that an alias leads to
abbrev pub name_of_kind : ResponseKind → Option (List ℕ)
name_of_kind (Referral zone) = Some zone
name_of_kind (Alias name) = Some name
name_of_kind kind = None

-- what C is told of a reading
abbrev pub record_of_summary : Summary → SummaryRecord
record_of_summary summary = record { kind = number_of_kind summary.kind; rcode = summary.rcode; aa = summary.aa; tc = summary.tc }

-- C is told what a reading says, and the name of its kind is made, if it has one; else it is as it was
pub record TellsSummary (reading : Reading) (told : SummaryRecord) (before after : FoldedName) : Type 0 where
  pub told_is : told ≡ record_of_summary reading.summary
  pub name_is : MatchOption (name_of_kind reading.summary.kind) (after ≡ before) (λ octets. IsFoldedName octets (division_of reading) after)

-- when it is told what a reading says, and when each refusal is returned: only the name of its kind
-- can be refused
abbrev pub SummaryDue : Reading → ℕ → Type 0
SummaryDue reading number = MatchOption (name_of_kind reading.summary.kind) (IsDone number) (λ octets. FoldingDue octets (division_of reading) number)

-- ---- reading
-- What one reading of a message holds: its offers, each beside the part that its name lies in.

-- an offer, and the part that its name lies in
abbrev pub placed_in : Division → OfferOf → Placed
placed_in division offer = record { part = keyed_part_of division.seed offer.key.name division.count; offer = offer }

-- a reading of offers: all of them, in order, at the moment of its reading, each beside its part
pub record HoldsOffers (terms : ResponseTerms) (offers : List OfferOf) (reading : Reading) : Type 0 where
  pub division : Passes (division_checks terms.parts)
  pub parts_are : reading.parts ≡ terms.parts.count
  pub moment_is : reading.moment ≡ terms.moment
  pub seed_is : reading.seed ≡ terms.parts.seed
  pub are_limits : AreLimits terms.limits
  pub moment : AreAt terms.moment offers
  pub placed : reading.placed.items ≡ map (placed_in terms.parts) offers

-- a reading of a message: all that it offers, and what it says
pub record IsReading (octets zone : List ℕ) (terms : ResponseTerms) (reading : Reading) : Type 0 where
  pub offers : List OfferOf
  pub offered : AreOffered octets zone terms offers
  pub holds : HoldsOffers terms offers reading
  pub relevance : RelevanceLimits
  pub are_chosen : AreChosen terms relevance
  pub says : reading.summary ≡ summary_of relevance offered.brought.message zone

-- the checks of a message that is read into offers for so many parts
abbrev pub reading_checks : List ℕ → List ℕ → ResponseTerms → List Check
reading_checks octets zone terms = division_checks terms.parts ++ message_checks octets zone terms.limits

-- ---- the parts concerned

-- whether offers lie in a part
abbrev pub has_part : List Placed → ℕ → Bool
has_part placed part = list_any (λ (one : Placed). one.part == part) placed

-- the bit of a part where offers lie in it, else 0
abbrev pub bit_of : List Placed → ℕ → ℕ
bit_of placed part = if has_part placed part then 2 ^ part else 0

-- the parts below a number in which offers lie, as the sum of their bits
abbrev pub parts_below : List Placed → ℕ → ℕ
parts_below placed zero = 0
parts_below placed (suc part) = parts_below placed part + bit_of placed part

-- ---- offering

-- the offers that lie in a part, in order
abbrev pub share_of : ℕ → List Placed → List OfferOf
share_of part placed = map (λ (one : Placed). one.offer) (filter (λ (one : Placed). one.part == part) placed)

-- all offers of a reading that lie in a part were written, and nothing else
abbrev pub TakesShare : Share → Counts → Reading → CacheShelfOf → CacheShelfOf → Type 0
TakesShare share counts reading old new = TakesAll share.line (share_of share.part reading.placed.items) counts old new

-- the checks of a call that offers them to a shelf with this seed: there is such a part, and the
-- message was read under that seed
abbrev pub share_checks : ℕ → Reading → List ℕ → List Check
share_checks part reading seed = unless BadRules (part < reading.parts) ∷ unless OtherSeed (reading.seed ≡ seed) ∷ memory ∷ []

-- what a refusal by this number leaves of a shelf of this seed: a check failed and nothing was
-- written, or all passed and the first of these offers were, before one was refused at the moment
-- of the reading
abbrev pub TakesSomeOfShare : ℕ → Share → List ℕ → Counts → Reading → CacheShelfOf → CacheShelfOf → Type 0
TakesSomeOfShare number share seed counts reading old new =
    (TakesNone counts old new × Refuses (share_checks share.part reading seed) number)
    ⊎ (Passes (share_checks share.part reading seed) × TakesFirst number share.line reading.moment (share_of share.part reading.placed.items) counts old new)

-- ---- offering one

-- when an offer of a reading is offered alone to a shelf of this seed, and when that is refused
-- with what
abbrev pub OneDue : Reading → OfferOf → List ℕ → CacheShelfOf → ℕ → Type 0
OneDue reading offer seed shelf = Due (unless OtherSeed (reading.seed ≡ seed) ∷ memory ∷ []) (WriteDue shelf offer.moment)

-- it was read by the seed of the shelf, and one event was written, of just that offer
pub record TakesOffer (line : ℕ) (reading : Reading) (offer : OfferOf) (seed : List ℕ) (outcome : ℕ) (old new : CacheShelfOf) : Type 0 where
  pub seeded : reading.seed ≡ seed
  pub takes : TakesOne line offer outcome old new

-- ---- one reading for many parts

-- the terms of an offer of a part, of a message that was read by these
abbrev pub terms_of_share : ResponseTerms → Share → ResponseTerms
terms_of_share terms share = record terms { line = share.line; part = share.part }

-- what a reading of a message offers by a part is what the message offers under names of that part
abbrev pub ShareIsPart : Type 0
ShareIsPart =
    (octets zone : List ℕ) (terms : ResponseTerms) (share : Share) (reading : Reading) (counts : Counts) (old new : CacheShelfOf) → IsReading octets zone terms reading
    → TakesShare share counts reading old new → TakesMessage (own_share (terms_of_share terms share)) octets zone (terms_of_share terms share) counts old new

-- and a refusal leaves what a refusal of the message's part leaves
abbrev pub RefusedShareIsPart : Type 0
RefusedShareIsPart =
    (octets zone : List ℕ) (number : ℕ) (terms : ResponseTerms) (share : Share) (seed : List ℕ) (reading : Reading) (counts : Counts) (old new : CacheShelfOf)
    → IsReading octets zone terms reading → TakesSomeOfShare number share seed counts reading old new
    → TakesSome (part_checks octets zone (terms_of_share terms share) seed) (own_share (terms_of_share terms share)) number octets zone (terms_of_share terms share) counts old new

-- ---- responses
-- What of a response to a query is read: what is relevant to it.

-- the query that was sent
abbrev pub query_of : List ℕ → ResponseTerms → Query
query_of name terms =
    record { id = terms.id; question = record { name = name; qtype = terms.rtype; qclass = terms.rclass }; with_case = terms.with_case }

-- a reading of a message: what of it is relevant by the limits of the call, and what it says
pub record ReadsRelevant (terms : ResponseTerms) (message : Message) (zone : List ℕ) (limits : Limits) (reading : Reading) : Type 0 where
  pub relevance : RelevanceLimits
  pub are_chosen : AreChosen terms relevance
  pub holds : HoldsOffers terms (relevant_of message zone terms.moment limits relevance) reading
  pub says : reading.summary ≡ summary_of relevance message zone

-- a reading of a response that was received from a zone, of octets that answer the query
pub record IsResponseReading (octets zone name : List ℕ) (terms : ResponseTerms) (reading : Reading) : Type 0 where
  pub zone_is : IsWireForm zone
  pub limits : Limits
  pub are_limits : LimitsAre limits terms.limits.cap terms.limits.negative_cap terms.limits.recheck
  pub message : Message
  pub answers : Answers (query_of name terms) octets message
  pub reads : ReadsRelevant terms message zone limits reading

-- whether a fault is that of a header without a question
abbrev pub is_header_alone : QueryFault → Bool
is_header_alone (NoQuestion rcode) = true
is_header_alone fault = false

-- octets answer no query, or another one
pub record IsOther (query : Query) (octets : List ℕ) : Type 0 where
  pub fault : QueryFault
  pub other : IsOfOtherQuery query octets fault
  pub more : is_header_alone fault ≡ false

-- octets are a header without a question that says that the query could or would not be read
pub record IsHeaderAlone (query : Query) (octets : List ℕ) : Type 0 where
  pub rcode : ℕ
  pub alone : IsOfOtherQuery query octets (NoQuestion rcode)

-- octets answer the query and cannot be read
pub record CannotBeRead (query : Query) (octets : List ℕ) : Type 0 where
  pub fault : QueryFault
  pub no_response : IsNoResponse query octets fault

-- nothing relevant is made of octets
abbrev pub AnswerRefused : Query → List ℕ → ℕ → Type 0
AnswerRefused query octets number =
    OutOfMemory number
    ⊎ (((number ≡ number_of statuses.NoQuestion) × IsHeaderAlone query octets) ⊎ ((number ≡ number_of statuses.BadMessage) × CannotBeRead query octets))

-- the checks that come before a response is compared with its query
abbrev pub response_checks : List ℕ → List ℕ → ResponseTerms → List Check
response_checks zone name terms =
    division_checks terms.parts ++ (unless statuses.BadLimits (AreLimits terms.limits) ∷ memory ∷ wire_check zone ∷ wire_check name ∷ [])

-- all of that passes, and octets answer no query, or another one
abbrev pub IsOtherAtLast : List ℕ → List ℕ → List ℕ → ResponseTerms → Type 0
IsOtherAtLast octets zone name terms = Passes (response_checks zone name terms) × IsOther (query_of name terms) octets

-- a response is not read
abbrev pub ResponseRefused : List ℕ → List ℕ → List ℕ → ResponseTerms → ℕ → Type 0
ResponseRefused octets zone name terms = Due (response_checks zone name terms) (AnswerRefused (query_of name terms) octets)
