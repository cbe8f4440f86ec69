-- SPDX-License-Identifier: MIT
-- What of octets is relevant to a query that are to be a message.
use Rattle.std.specs.Prelude.{◌≡◌, ℕ, List, Some, None}
use Rattle.rrc_wire.specs.declared.fault.WireFault.{WireFault}
use Rattle.rrc_wire.specs.declared.message.Message.{Message}
use Rattle.rrc_wire.specs.Grammar.{MessageOf}
use Rattle.rrc_wire.specs.FirstFault.{FirstFault}
use Rattle.rrc_history.specs.Fits.{OfferOf}
use Rattle.rrc_sets.specs.declared.limits.Limits.{Limits}
use Rattle.rrc_sets.specs.declared.relevance.RelevanceLimits.{RelevanceLimits}
use Rattle.rrc_sets.specs.declared.query.Query.{Query}
use Rattle.rrc_sets.specs.declared.query.QueryFault.{QueryFault}
use Rattle.rrc_sets.specs.declared.query.QueryFault.TheVariants.{NoResponse}
use Rattle.rrc_sets.specs.Queries.{front_mismatch, mismatch}
use Rattle.rrc_sets.specs.Relevant.{relevant_of}

-- octets begin with a message (RFC 1035 4.1) that answers a query, as their front does
pub record Answers (query : Query) (octets : List ℕ) (message : Message) : Type 0 where
  pub begins : MessageOf octets message
  pub front : front_mismatch query octets ≡ None
  pub response : mismatch query message ≡ None

-- they do, and this of what the message offers is relevant
pub record BringsRelevant (query : Query) (limits : Limits) (relevance : RelevanceLimits) (octets zone : List ℕ) (moment : ℕ) (offers : List OfferOf) : Type 0 where
  pub message : Message
  pub answers : Answers query octets message
  pub offered : offers ≡ relevant_of message zone moment limits relevance

-- the front of octets answers a query, and they cannot be read, for this first fault
pub record IsNoResponse (query : Query) (octets : List ℕ) (fault : QueryFault) : Type 0 where
  pub front : front_mismatch query octets ≡ None
  pub first : WireFault
  pub is_first : FirstFault octets first
  pub told : fault ≡ NoResponse first

-- octets do not answer a query, and this is why, by their front, or else by the message that they begin with
pub data IsOfOtherQuery (query : Query) (octets : List ℕ) (fault : QueryFault) : Type 0 where
  by_front : front_mismatch query octets ≡ Some fault → IsOfOtherQuery query octets fault
  by_message : {message : Message} → front_mismatch query octets ≡ None → MessageOf octets message → mismatch query message ≡ Some fault
      → IsOfOtherQuery query octets fault
