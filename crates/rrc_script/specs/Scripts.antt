-- SPDX-License-Identifier: MIT
-- What a line of a trace calls for: its operations, in order of place, and what becomes of it as a fetch.
use Rattle.std.specs.Prelude.{◌≡◌, ◌⊎◌, ℕ, zero, suc, ◌+◌, List, [], ◌∷◌, ◌++◌, map, Option, Some, None}
use Rattle.rrc_name.specs.Wire.{folded}
use Rattle.rrc_name.specs.Key.{KeyOf}
use Rattle.rrc_name.specs.Parts.{part_of}
use Rattle.rrc_name.specs.declared.slot.Slot.TheVariants as slots
use Rattle.rrc_wire.specs.declared.fault.WireFault.{WireFault}
use Rattle.rrc_wire.specs.Fault.{number_of}
use Rattle.rrc_wire.specs.FirstFault.{FirstFault}
use Rattle.rrc_history.specs.declared.ask.Purpose.TheVariants as purposes
use Rattle.rrc_history.specs.declared.ask.Mode.{Mode}
use Rattle.rrc_history.specs.declared.ask.Mode.TheVariants as modes
use Rattle.rrc_history.specs.declared.body.Body.TheVariants.{Positive, Failure}
use Rattle.rrc_history.specs.Asked.{AskOf}
use Rattle.rrc_history.specs.Fits.{OfferOf}
use Rattle.rrc_sets.specs.declared.limits.Limits.{Limits}
use Rattle.rrc_sets.specs.Life.{life}
use Rattle.rrc_sets.specs.Message.{Brings}
use Rattle.rrc_trace.specs.declared.line.Line.{Line}
use Rattle.rrc_trace.specs.declared.line.Line.TheVariants as lines
use Rattle.rrc_trace.specs.declared.line.Put.{Put}
use Rattle.rrc_trace.specs.declared.line.Fetch.{Fetch}
use Rattle.rrc_trace.specs.declared.answer.Answer.{Answer}
use Rattle.rrc_trace.specs.declared.answer.Answer.TheVariants as answers
use Rattle.rrc_trace.specs.Questions.{question_of, number_among}
use Rattle.rrc_collate.specs.declared.script.Call.TheVariants as calls
use Rattle.rrc_collate.specs.declared.script.Operation.{Operation}
use Rattle.rrc_collate.specs.declared.task.Fate.TheVariants as fates
use Rattle.rrc_script.specs.declared.config.Config.{Config}
use Rattle.rrc_script.specs.declared.script.Script.{Script}

-- ---- offers and asks

-- the offer of a put: the data live as long as a time to live that is written so (RFC 8767 4)
abbrev pub offer_of : Limits → Put → OfferOf
offer_of limits put =
    record {
      key = record { name = folded put.name; class = put.class; slot = slots.Set put.rtype };
      body = Positive put.trust (life put.ttl limits) put.name put.items;
      moment = put.moment;
    }

-- the offer that a question could not be answered (RFC 8767 5)
abbrev pub failure_of : Limits → ℕ → List ℕ → ℕ → ℕ → OfferOf
failure_of limits moment name class rtype =
    record {
      key = record { name = folded name; class = class; slot = slots.Failed rtype };
      body = Failure limits.recheck;
      moment = moment;
    }

-- the offer of a fetch that got no message
abbrev pub failure_by : Limits → Fetch → OfferOf
failure_by limits fetch = failure_of limits fetch.moment fetch.name fetch.class fetch.rtype

-- what the octets that were fetched offer: where they are no message a failure
abbrev pub BringsOctets : Limits → Fetch → Option (List ℕ) → List OfferOf → Type 0
BringsOctets limits fetch None offers = offers ≡ failure_by limits fetch ∷ []
BringsOctets limits fetch (Some octets) offers =
    Brings limits octets fetch.zone fetch.moment offers ⊎ ((fault : WireFault) × (FirstFault octets fault × (offers ≡ failure_by limits fetch ∷ [])))

-- what a fetch offers
abbrev pub Fetches : Limits → Fetch → List OfferOf → Type 0
Fetches limits fetch offers = BringsOctets limits fetch fetch.octets offers

-- what a fetch asks for its question
abbrev pub ask_of : Fetch → Mode → AskOf
ask_of fetch mode =
    record {
      name = folded fetch.name;
      class = fetch.class;
      rtype = fetch.rtype;
      moment = fetch.moment;
      purpose = purposes.Answer;
      mode = mode;
    }

-- ---- operations, each on the part that its name lies in

abbrev pub offering : ℕ → OfferOf → Operation
offering parts offer = record { part = part_of offer.key.name parts; call = calls.Offer offer }

abbrev pub asking : ℕ → AskOf → Operation
asking parts ask = record { part = part_of ask.name parts; call = calls.Ask ask }

-- a sweep of each of so many parts, the first of which has this number
abbrev pub sweeping : ℕ → ℕ → ℕ → List Operation
sweeping moment part zero = []
sweeping moment part (suc count) = record { part = part; call = calls.Sweep moment } ∷ sweeping moment (part + 1) count

-- ---- the script of a line

-- operations of a line that fetches nothing
abbrev pub plain : List Operation → Script
plain operations = record { operations = operations; fate = fates.Plain }

-- a fetch asks first whether there is an answer, a stale one where it failed not long ago (RFC 8767 5)
abbrev pub first_ask : ℕ → Fetch → Operation
first_ask parts fetch = asking parts (ask_of fetch modes.Failed)

-- a fetch asks again once it has offered what it got, and then a stale answer will do
abbrev pub last_ask : ℕ → Fetch → Operation
last_ask parts fetch = asking parts (ask_of fetch modes.Now)

-- the operations of a fetch that got offers
abbrev pub fetching : ℕ → Fetch → List OfferOf → List Operation
fetching parts fetch offers = first_ask parts fetch ∷ (map (offering parts) offers ++ last_ask parts fetch ∷ [])

-- a fetch that another one of its question stood in for
pub record Joins (config : Config) (questions : List KeyOf) (fetch : Fetch) (script : Script) : Type 0 where
  pub question : ℕ
  pub numbered : number_among questions (question_of fetch) ≡ Some question
  pub is : script ≡ record { operations = first_ask config.parts fetch ∷ []; fate = fates.Joined question }

-- a fetch that was made
pub record Gets (config : Config) (questions : List KeyOf) (fetch : Fetch) (script : Script) : Type 0 where
  pub question : ℕ
  pub offers : List OfferOf
  pub numbered : number_among questions (question_of fetch) ≡ Some question
  pub brought : Fetches config.limits fetch offers
  pub is : script ≡ record { operations = fetching config.parts fetch offers; fate = fates.Fetched question (part_of fetch.name config.parts) }

-- a response that is a message
pub record Responds (config : Config) (octets zone : List ℕ) (moment : ℕ) (script : Script) : Type 0 where
  pub offers : List OfferOf
  pub brought : Brings config.limits octets zone moment offers
  pub is : script ≡ plain (map (offering config.parts) offers)

-- octets have a first fault, of this number
abbrev pub HasFaultOf : List ℕ → ℕ → Type 0
HasFaultOf octets number = (fault : WireFault) × (FirstFault octets fault × (number ≡ number_of fault))

-- what a line calls for, where it got an answer of this kind; the questions that the trace fetches are numbered
abbrev pub HasScript : Config → List KeyOf → Line → Answer → Script → Type 0
HasScript config questions (lines.Put put) (answers.Put told) script = script ≡ plain (offering config.parts (offer_of config.limits put) ∷ [])
HasScript config questions (lines.Ask ask) (answers.Ask reply) script = script ≡ plain (asking config.parts ask ∷ [])
HasScript config questions (lines.Fail failed) (answers.Fail told) script =
    script ≡ plain (offering config.parts (failure_of config.limits failed.moment failed.name failed.class failed.rtype) ∷ [])
HasScript config questions (lines.Response response) (answers.Response told) script = Responds config response.octets response.zone response.moment script
HasScript config questions (lines.Response response) (answers.Refused number) script = HasFaultOf response.octets number × (script ≡ plain [])
HasScript config questions (lines.Fetch fetch) (answers.Hit reply) script = script ≡ plain (first_ask config.parts fetch ∷ [])
HasScript config questions (lines.Fetch fetch) (answers.Held moment) script = script ≡ plain (first_ask config.parts fetch ∷ [])
HasScript config questions (lines.Fetch fetch) answers.Joined script = Joins config questions fetch script
HasScript config questions (lines.Fetch fetch) (answers.Fetched told reply) script = Gets config questions fetch script
HasScript config questions (lines.Sweep moment) (answers.Swept counts) script = script ≡ plain (sweeping moment 0 config.parts)
HasScript config questions lines.Checkpoint answers.Closed script = script ≡ plain []
HasScript config questions line answer script = ⊥

-- a line has one script for an answer
abbrev pub OneScript : Type 0
OneScript =
    (config : Config) (questions : List KeyOf) (line : Line) (answer : Answer) (script other : Script) → HasScript config questions line answer script
    → HasScript config questions line answer other → script ≡ other
