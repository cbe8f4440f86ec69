-- SPDX-License-Identifier: MIT
-- A line has one script for an answer.
use Rattle.std.proofs.Common.{◌≡◌, ◌⊎◌, ℕ, List, [], ◌∷◌, map, sym, ap, ◌∙◌, inl, inr, Option, Some, None}
use Rattle.rrc_name.specs.Key.{KeyOf}
use Rattle.rrc_wire.specs.declared.fault.WireFault.{WireFault}
use Rattle.rrc_wire.specs.declared.message.Message.{Message}
use Rattle.rrc_wire.specs.Fault.{number_of}
use Rattle.rrc_wire.specs.Grammar.{MessageOf}
use Rattle.rrc_wire.specs.FirstFault.{FirstFault}
use Rattle.rrc_wire.specs.Law.{BeginsWithMessage, HasFault}
use Rattle.rrc_history.specs.Fits.{OfferOf}
use Rattle.rrc_sets.specs.declared.limits.Limits.{Limits}
use Rattle.rrc_sets.specs.Message.{Brings}
use Rattle.rrc_sets.specs.Offers.{offers_of}
use Rattle.rrc_name.specs.Parts.{part_of}
use Rattle.rrc_trace.specs.declared.line.Line.TheVariants as lines
use Rattle.rrc_trace.specs.declared.line.Fetch.{Fetch}
use Rattle.rrc_trace.specs.declared.answer.Answer.TheVariants as answers
use Rattle.rrc_trace.specs.Questions.{question_of, number_among}
use Rattle.rrc_collate.specs.declared.task.Fate.TheVariants as fates
use Rattle.rrc_script.specs.declared.config.Config.{Config}
use Rattle.rrc_script.specs.declared.script.Script.{Script}
use Rattle.rrc_script.specs.Scripts.{BringsOctets, offering, plain, first_ask, fetching, HasFaultOf, Joins, Gets, Responds, OneScript}

-- ---- octets bring one list of offers

-- octets begin with one message or have one first fault
abbrev pub OneMessageOrFault : Type 0
OneMessageOrFault = (octets : List ℕ) → BeginsWithMessage octets ⊎ HasFault octets

one_bring : OneMessageOrFault → (limits : Limits) (octets zone : List ℕ) (moment : ℕ) (offers others : List OfferOf) → Brings limits octets zone moment offers
    → Brings limits octets zone moment others → offers ≡ others
one_bring law limits octets zone moment offers others brings also = by (law octets)
  where
    by : BeginsWithMessage octets ⊎ HasFault octets → offers ≡ others
    by (inl one) =
        brings.offered
        ∙ (ap (λ m. offers_of m zone moment limits) (one.only brings.message brings.begins ∙ sym (one.only also.message also.begins)) ∙ sym also.offered)
    by (inr fault) = absurd (fault.no_message brings.message brings.begins)

-- octets that begin with a message have no fault
pub not_both : OneMessageOrFault → (octets : List ℕ) (message : Message) (fault : WireFault) → MessageOf octets message → FirstFault octets fault → ⊥
not_both law octets message fault begins first = by (law octets)
  where
    by : BeginsWithMessage octets ⊎ HasFault octets → ⊥
    by (inl one) = one.no_fault fault first
    by (inr has) = has.no_message message begins

-- octets have one first fault
pub one_fault : OneMessageOrFault → (octets : List ℕ) (fault other : WireFault) → FirstFault octets fault → FirstFault octets other → fault ≡ other
one_fault law octets fault other is also = by (law octets)
  where
    by : BeginsWithMessage octets ⊎ HasFault octets → fault ≡ other
    by (inl one) = absurd (one.no_fault fault is)
    by (inr has) = has.only fault is ∙ sym (has.only other also)

-- it has one number
pub one_number : OneMessageOrFault → (octets : List ℕ) (number other : ℕ) → HasFaultOf octets number → HasFaultOf octets other → number ≡ other
one_number law octets number other is also = is.1.1 ∙ (ap number_of (one_fault law octets is.0 also.0 is.1.0 also.1.0) ∙ sym also.1.1)

-- a fetch brings one list of offers
one_fetched : OneMessageOrFault → (limits : Limits) (fetch : Fetch) (octets : Option (List ℕ)) (offers others : List OfferOf) → BringsOctets limits fetch octets offers
    → BringsOctets limits fetch octets others → offers ≡ others
one_fetched law limits fetch None offers others brings also = brings ∙ sym also
one_fetched law limits fetch (Some octets) offers others (inl brings) (inl also) = one_bring law limits octets fetch.zone fetch.moment offers others brings also
one_fetched law limits fetch (Some octets) offers others (inl brings) (inr also) = absurd (not_both law octets brings.message also.0 brings.begins also.1.0)
one_fetched law limits fetch (Some octets) offers others (inr brings) (inl also) = absurd (not_both law octets also.message brings.0 also.begins brings.1.0)
one_fetched law limits fetch (Some octets) offers others (inr brings) (inr also) = brings.1.1 ∙ sym also.1.1

-- ---- a line has one script

some_is : (a b : ℕ) (found : Option ℕ) → found ≡ Some a → found ≡ Some b → a ≡ b
some_is a b found is also = cc

-- the script of a fetch that joined one of this question
abbrev join_script : Config → Fetch → ℕ → Script
join_script config fetch question = record { operations = first_ask config.parts fetch ∷ []; fate = fates.Joined question }

one_joined : (config : Config) (questions : List KeyOf) (fetch : Fetch) (script other : Script) → Joins config questions fetch script
    → Joins config questions fetch other → script ≡ other
one_joined config questions fetch script other joins also =
    let same : joins.question ≡ also.question = some_is joins.question also.question (number_among questions (question_of fetch)) joins.numbered also.numbered in
    joins.is ∙ (ap (join_script config fetch) same ∙ sym also.is)

-- the script of a fetch that got offers, of this question
abbrev fetch_script : Config → Fetch → List OfferOf → ℕ → Script
fetch_script config fetch offers question =
    record { operations = fetching config.parts fetch offers; fate = fates.Fetched question (part_of fetch.name config.parts) }

one_got : OneMessageOrFault → (config : Config) (questions : List KeyOf) (fetch : Fetch) (script other : Script) → Gets config questions fetch script
    → Gets config questions fetch other → script ≡ other
one_got law config questions fetch script other gets also =
    let same : gets.question ≡ also.question = some_is gets.question also.question (number_among questions (question_of fetch)) gets.numbered also.numbered in
    let brought : gets.offers ≡ also.offers = one_fetched law config.limits fetch fetch.octets gets.offers also.offers gets.brought also.brought in
    gets.is
    ∙ (ap (fetch_script config fetch gets.offers) same ∙ (ap (λ offers. fetch_script config fetch offers also.question) brought ∙ sym also.is))

one_response : OneMessageOrFault → (config : Config) (octets zone : List ℕ) (moment : ℕ) (script other : Script) → Responds config octets zone moment script
    → Responds config octets zone moment other → script ≡ other
one_response law config octets zone moment script other responds also =
    let brought : responds.offers ≡ also.offers = one_bring law config.limits octets zone moment responds.offers also.offers responds.brought also.brought in
    responds.is ∙ (ap (λ offers. plain (map (offering config.parts) offers)) brought ∙ sym also.is)

-- a line has one script for an answer
pub one_script : OneMessageOrFault → OneScript
one_script law config questions (lines.Put put) (answers.Put told) script other is also = is ∙ sym also
one_script law config questions (lines.Ask ask) (answers.Ask reply) script other is also = is ∙ sym also
one_script law config questions (lines.Fail failed) (answers.Fail told) script other is also = is ∙ sym also
one_script law config questions (lines.Response response) (answers.Response told) script other is also =
    one_response law config response.octets response.zone response.moment script other is also
one_script law config questions (lines.Response response) (answers.Refused number) script other is also = is.1 ∙ sym also.1
one_script law config questions (lines.Fetch fetch) (answers.Hit reply) script other is also = is ∙ sym also
one_script law config questions (lines.Fetch fetch) (answers.Held moment) script other is also = is ∙ sym also
one_script law config questions (lines.Fetch fetch) answers.Joined script other is also = one_joined config questions fetch script other is also
one_script law config questions (lines.Fetch fetch) (answers.Fetched told reply) script other is also = one_got law config questions fetch script other is also
one_script law config questions (lines.Sweep moment) (answers.Swept counts) script other is also = is ∙ sym also
one_script law config questions lines.Checkpoint answers.Closed script other is also = is ∙ sym also
one_script law config questions line answer script other is also = absurd is
