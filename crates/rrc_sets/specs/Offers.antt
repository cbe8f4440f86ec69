-- SPDX-License-Identifier: MIT
-- What a response offers to a cache.
use Rattle.std.specs.Prelude.{ℕ, List, [], ◌∷◌, ◌++◌, Bool, false, ◌||◌, not, ◌==◌, if◌then◌else◌, Option, None, option_map}
use Rattle.std.specs.List.{filter_map}
use Rattle.std.specs.Option.{option_to_list}
use Rattle.rrc_name.specs.declared.slot.Slot.TheVariants as slots
use Rattle.rrc_name.specs.Wire.{folded, same_name}
use Rattle.rrc_name.specs.Order.{is_at_or_below}
use Rattle.rrc_wire.specs.declared.record.Rr.{Rr}
use Rattle.rrc_wire.specs.declared.message.Message.{Message}
use Rattle.rrc_wire.specs.Layout.{is_kept_class, is_kept}
use Rattle.rrc_history.specs.declared.body.Body.TheVariants.{Positive, Failure}
use Rattle.rrc_history.specs.Fits.{OfferOf}
use Rattle.rrc_sets.specs.declared.limits.Limits.{Limits}
use Rattle.rrc_sets.specs.declared.rank.Section.{Section}
use Rattle.rrc_sets.specs.declared.rank.Section.TheVariants.{Answer, Authority, Additional}
use Rattle.rrc_sets.specs.Life.{set_life}
use Rattle.rrc_sets.specs.Ranks.{section_rank}
use Rattle.rrc_sets.specs.Sets.{SetOf, sets_of}
use Rattle.rrc_sets.specs.Denials.{negative_offer}
use Rattle.rrc_sets.specs.Classes.{in_own_class}

-- the offer of a set that has a life
abbrev pub living_offer : Section → Message → ℕ → SetOf → ℕ → OfferOf
living_offer section message moment set ttl =
    record {
      key = record { name = folded set.owner; class = set.class; slot = slots.Set set.rtype };
      body = Positive (section_rank section message.aa (same_name set.owner message.question.name)) ttl set.owner set.items;
      moment = moment;
    }

-- the offer of a set of the zone, if it has a life (ours: the zone): where the lowest time is to count, it has one whatever its times
abbrev pub set_offer : Section → Bool → Message → List ℕ → ℕ → Limits → SetOf → Option OfferOf
set_offer section lowest message zone moment limits set =
    if is_at_or_below set.owner zone then option_map (living_offer section message moment set) (set_life limits (message.aa || lowest) set.ttls) else None

-- the records of a section
abbrev pub records_of : Section → Message → List Rr
records_of Answer message = message.answer
records_of Authority message = message.authority
records_of Additional message = message.additional

-- the offers of a section's sets, in order
unfoldable pub section_offers : Section → Bool → Message → List ℕ → ℕ → Limits → List OfferOf
section_offers section lowest message zone moment limits =
    filter_map (set_offer section lowest message zone moment limits) (sets_of (records_of section message))

-- the offers of a reply that answers: the sets of its three sections, and then its negative answer
unfoldable pub answer_offers : Bool → Message → List ℕ → ℕ → Limits → List OfferOf
answer_offers lowest message zone moment limits =
    section_offers Answer lowest message zone moment limits
    ++ (section_offers Authority lowest message zone moment limits
    ++ (section_offers Additional lowest message zone moment limits
    ++ option_to_list (negative_offer message zone moment limits)))

-- the offer of a reply that failed: that asking for the question's name and type did (RFC 8767 5)
abbrev pub failure_offers : Message → ℕ → Limits → List OfferOf
failure_offers message moment limits =
    let question = message.question in
    if is_kept question.qtype question.qclass
    then record {
      key = record { name = folded question.name; class = question.qclass; slot = slots.Failed question.qtype };
      body = Failure limits.recheck;
      moment = moment;
    } ∷ []
    else []

-- whether a message offers nothing: it is truncated, no standard query, or its question is of a class that is not kept or outside the
-- zone (ours)
abbrev pub is_silent : Message → List ℕ → Bool
is_silent message zone =
    message.tc || (not (message.opcode == 0) || (not (is_kept_class message.question.qclass) || not (is_at_or_below message.question.name zone)))

-- what a message offers for a zone at a moment
unfoldable pub offers_of : Message → List ℕ → ℕ → Limits → List OfferOf
offers_of message zone moment limits =
    if is_silent message zone then []
    else if message.rcode == 0 || message.rcode == 3 then answer_offers false (in_own_class message) zone moment limits
    else failure_offers message moment limits
