-- SPDX-License-Identifier: MIT
-- What a denial of a name clears, so that nothing that was stored before it answers again once it is gone (ours).
use Rattle.std.specs.Prelude.{ℕ, List, [], ◌++◌, Bool, ◌&&◌, ◌||◌, ◌==◌, if◌then◌else◌, Option, Some, None}
use Rattle.std.specs.List.{list_any}
use Rattle.std.specs.Option.{option_map_or, option_to_list}
use Rattle.rrc_name.specs.declared.slot.Slot.TheVariants.{Set}
use Rattle.rrc_name.specs.Wire.{folded, same_name}
use Rattle.rrc_wire.specs.declared.record.Rr.{Rr}
use Rattle.rrc_wire.specs.declared.message.Message.{Message}
use Rattle.rrc_wire.specs.Layout.{is_kept}
use Rattle.rrc_history.specs.Fits.{OfferOf}
use Rattle.rrc_sets.specs.declared.relevance.RelevanceLimits.{RelevanceLimits}
use Rattle.rrc_sets.specs.Aliases.{final_name}
use Rattle.rrc_sets.specs.Denials.{soa_of, denial}

-- that a name has no data of a type which is kept, for no time, as a SOA record says: a cache clears what it holds of them
abbrev pub no_data : Message → ℕ → List ℕ → Rr → ℕ → Option OfferOf
no_data message moment name soa rtype =
    if is_kept rtype message.question.qclass
    then Some (record {
      key = record { name = folded name; class = message.question.qclass; slot = Set rtype };
      body = denial message 0 name soa;
      moment = moment;
    })
    else None

-- the same of the type that was asked for, if that is none of addresses (1 and 28) and aliases (5)
abbrev pub no_other_data : Message → ℕ → List ℕ → Rr → Option OfferOf
no_other_data message moment name soa =
    let rtype = message.question.qtype in
    if rtype == 1 || (rtype == 28 || rtype == 5) then None else no_data message moment name soa rtype

-- what a name loses that does not exist, as a SOA record says: addresses, its alias, and data of the type that was asked for
unfoldable pub cleared : Message → ℕ → List ℕ → Rr → List OfferOf
cleared message moment name soa =
    option_to_list (no_data message moment name soa 1)
    ++ (option_to_list (no_data message moment name soa 28)
    ++ (option_to_list (no_data message moment name soa 5)
    ++ option_to_list (no_other_data message moment name soa)))

-- the same of a name, if the answer has no record of it (RFC 2308 2.1) and a SOA record denies it
abbrev pub cleared_under : Message → List ℕ → ℕ → List ℕ → List OfferOf
cleared_under message zone moment name =
    if list_any (λ rr. same_name rr.owner name) message.answer then [] else option_map_or (cleared message moment name) (soa_of message zone name) []

-- whether a reply denies a name with authority, and that is to clear
abbrev pub clears : Message → RelevanceLimits → Bool
clears message relevance = relevance.clears_denied && (message.aa && message.rcode == 3)

-- what a reply clears: what it denies is the final name
unfoldable pub clearing_offers : Message → List ℕ → ℕ → RelevanceLimits → List OfferOf
clearing_offers message zone moment relevance =
    if clears message relevance then option_map_or (cleared_under message zone moment) (final_name message) [] else []
