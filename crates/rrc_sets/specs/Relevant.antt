-- SPDX-License-Identifier: MIT
-- Which offers of a response are relevant to its question: those that a resolver needs which asked it (RFC 5452 6, ours).
use Rattle.std.specs.Prelude.{ℕ, List, [], ◌++◌, length, map, take, drop, filter, Bool, true, false, ◌&&◌, ◌||◌, not, ◌==◌, ◌≤◌, nat_le, if◌then◌else◌, Option, Some, None}
use Rattle.std.specs.List.{list_any, list_all, sum_by, flat_map}
use Rattle.std.specs.Option.{option_map_or, option_to_list}
use Rattle.rrc_name.specs.declared.slot.Slot.TheVariants.{Set}
use Rattle.rrc_name.specs.Wire.{same_name}
use Rattle.rrc_name.specs.Order.{is_at_or_below}
use Rattle.rrc_name.specs.Key.{slot_eq}
use Rattle.rrc_wire.specs.declared.message.Message.{Message}
use Rattle.rrc_history.specs.declared.body.Body.{Body}
use Rattle.rrc_history.specs.declared.body.Body.TheVariants.{Positive, Negative, Failure}
use Rattle.rrc_history.specs.Fits.{OfferOf}
use Rattle.rrc_sets.specs.declared.limits.Limits.{Limits}
use Rattle.rrc_sets.specs.declared.relevance.RelevanceLimits.{RelevanceLimits}
use Rattle.rrc_sets.specs.declared.rank.Section.TheVariants.{Answer, Authority, Additional}
use Rattle.rrc_sets.specs.Uniques.{uniques}
use Rattle.rrc_sets.specs.Aliases.{final_name, question_names}
use Rattle.rrc_sets.specs.Denials.{negative_offer}
use Rattle.rrc_sets.specs.Cleared.{clearing_offers}
use Rattle.rrc_sets.specs.Classes.{in_own_class}
use Rattle.rrc_sets.specs.Offers.{section_offers, answer_offers, failure_offers, is_silent}

-- whether an offer is one of an RRset of a type
abbrev pub is_set_of : ℕ → OfferOf → Bool
is_set_of rtype offer = slot_eq (Set rtype) offer.key.slot

-- whether an RRset may come from the servers of a zone: a DS RRset of the zone itself is its parent's (RFC 4035 2.4)
unfoldable pub may_come_from : List ℕ → OfferOf → Bool
may_come_from zone offer = not (is_set_of 43 offer && same_name zone offer.key.name)

-- whether the owner of an offer is one of these names
abbrev pub is_owned_by : List (List ℕ) → OfferOf → Bool
is_owned_by names offer = list_any (λ name. same_name name offer.key.name) names

-- ---- RRsets of the answer section

-- whether a question asks for an RRset by its type: QTYPE 255 asks for all (RFC 1035 3.2.3)
abbrev pub is_asked_for : ℕ → OfferOf → Bool
is_asked_for qtype offer = qtype == 255 || is_set_of qtype offer

-- whether the owner of an offer is above one of these names
abbrev pub is_above : List (List ℕ) → OfferOf → Bool
is_above names offer = list_any (λ name. is_at_or_below name offer.key.name && not (same_name name offer.key.name)) names

-- an RRset of a name on the chain of aliases that is asked for or is an alias, or a DNAME record above such a name (RFC 6672 2.3)
unfoldable pub is_on_chain : ℕ → List (List ℕ) → OfferOf → Bool
is_on_chain qtype names offer =
    (is_owned_by names offer && (is_asked_for qtype offer || is_set_of 5 offer)) || (is_set_of 39 offer && is_above names offer)

-- ---- RRsets of the authority section

-- whether the owner of an offer is at or above the name, if there is one
abbrev pub has_below : Option (List ℕ) → OfferOf → Bool
has_below None offer = false
has_below (Some name) offer = is_at_or_below name offer.key.name

-- an SOA record, or the name servers of a zone, or their DS record (RFC 4035 3.1.4), where the zone is one of the final name's
unfoldable pub is_of_final_zone : Option (List ℕ) → OfferOf → Bool
is_of_final_zone final offer = (is_set_of 6 offer || (is_set_of 2 offer || is_set_of 43 offer)) && has_below final offer

-- whether an offer is the NS RRset that was asked for
abbrev pub is_asked_servers : Message → OfferOf → Bool
is_asked_servers message offer = message.question.qtype == 2 && same_name message.question.name offer.key.name

-- whether an RRset of the authority section is no NS RRset, or is that of a referral (RFC 1034 4.3.2), which has AA clear and leads below
-- the zone, or was itself asked for
unfoldable pub may_refer : Message → List ℕ → OfferOf → Bool
may_refer message zone offer =
    not (is_set_of 2 offer) || (is_asked_servers message offer || (not message.aa && not (same_name zone offer.key.name)))

-- whether two offers are of one type
abbrev pub same_type : OfferOf → OfferOf → Bool
same_type a b = slot_eq a.key.slot b.key.slot

-- ---- RRsets of the additional section

-- the data of an RRset
abbrev pub items_of : Body → List (List ℕ)
items_of (Positive trust ttl owner items) = items
items_of (Negative trust ttl soa_owner soa) = []
items_of (Failure ttl) = []

-- where the name of a host stands in data of a type: NS (RFC 1035 3.3.11), MX (RFC 1035 3.3.9) and SRV (RFC 2782)
abbrev pub host_place : OfferOf → Option ℕ
host_place offer =
    if is_set_of 2 offer then Some 0
    else if is_set_of 15 offer then Some 2
    else if is_set_of 33 offer then Some 6
    else None

-- the hosts that the data of an RRset name
abbrev pub hosts_of : OfferOf → List (List ℕ)
hosts_of offer = option_map_or (λ place. map (drop place) (items_of offer.body)) (host_place offer) []

-- the hosts that offers name, those of NS RRsets first, each once, so many at most
unfoldable pub hosts_named : ℕ → List OfferOf → List (List ℕ)
hosts_named most offers =
    take most (uniques same_name (flat_map hosts_of (filter (is_set_of 2) offers) ++ flat_map hosts_of (filter (λ offer. not (is_set_of 2 offer)) offers)))

-- the addresses of a host
unfoldable pub is_address_of : List (List ℕ) → OfferOf → Bool
is_address_of hosts offer = (is_set_of 1 offer || is_set_of 28 offer) && is_owned_by hosts offer

-- ---- RRsets of any section

-- how many octets the data of an RRset have: an address of class IN has 4 (RFC 1035 3.4.1) or 16 (RFC 3596 2.2), others any number
abbrev pub length_of : OfferOf → Option ℕ
length_of offer =
    if not (offer.key.class == 1) then None
    else if is_set_of 1 offer then Some 4
    else if is_set_of 28 offer then Some 16
    else None

-- whether octets are as many as they are to be
abbrev pub has_length : Option ℕ → List ℕ → Bool
has_length None octets = true
has_length (Some wanted) octets = length octets == wanted

-- an offer has at most so many octets of RDATA of an RRset
abbrev pub HasWithin : ℕ → OfferOf → Type 0
HasWithin most offer = sum_by length (items_of offer.body) ≤ most

-- an RRset of no more octets than the limit, whose addresses are as long as addresses are
unfoldable pub is_measured : RelevanceLimits → OfferOf → Bool
is_measured relevance offer =
    nat_le (sum_by length (items_of offer.body)) relevance.octets && list_all (has_length (length_of offer)) (items_of offer.body)

-- ---- the relevant offers

-- those of the answer section
unfoldable pub relevant_answer : Message → List ℕ → ℕ → Limits → RelevanceLimits → List OfferOf
relevant_answer message zone moment limits relevance =
    let names = question_names relevance.aliases message in
    let wanted = λ (offer : OfferOf). may_come_from zone offer && is_on_chain message.question.qtype names offer in
    filter (λ offer. wanted offer && is_measured relevance offer) (section_offers Answer relevance.lowest_ttl message zone moment limits)

-- those of the authority section: the first of each type
unfoldable pub relevant_authority : Message → List ℕ → ℕ → Limits → RelevanceLimits → List OfferOf
relevant_authority message zone moment limits relevance =
    let final = final_name message in
    let wanted = λ (offer : OfferOf). may_come_from zone offer && (is_of_final_zone final offer && (not relevance.only_referrals || may_refer message zone offer)) in
    uniques same_type (filter (λ offer. wanted offer && is_measured relevance offer) (section_offers Authority relevance.lowest_ttl message zone moment limits))

-- those of the additional section: addresses of the hosts that relevant offers name
unfoldable pub relevant_additional : List OfferOf → Message → List ℕ → ℕ → Limits → RelevanceLimits → List OfferOf
relevant_additional naming message zone moment limits relevance =
    let hosts = hosts_named relevance.hosts naming in
    filter (λ offer. is_address_of hosts offer && is_measured relevance offer) (section_offers Additional relevance.lowest_ttl message zone moment limits)

-- those of a reply that answers, in the order in which it offers them
unfoldable pub relevant_offers : Message → List ℕ → ℕ → Limits → RelevanceLimits → List OfferOf
relevant_offers message zone moment limits relevance =
    let naming = relevant_answer message zone moment limits relevance ++ relevant_authority message zone moment limits relevance in
    naming ++ (relevant_additional naming message zone moment limits relevance ++ option_to_list (negative_offer message zone moment limits))

-- those of a message: of one that answers these, and what its denial clears, and of one that failed its failure
unfoldable pub relevant_of : Message → List ℕ → ℕ → Limits → RelevanceLimits → List OfferOf
relevant_of message zone moment limits relevance =
    let own = in_own_class message in
    if is_silent message zone then []
    else if message.rcode == 0 || message.rcode == 3 then relevant_offers own zone moment limits relevance ++ clearing_offers own zone moment relevance
    else failure_offers message moment limits

-- all offers of a message, of which those are some: what `offers_of` has, but for TTLs that differ, and what its denial clears
unfoldable pub offers_by : Message → List ℕ → ℕ → Limits → RelevanceLimits → List OfferOf
offers_by message zone moment limits relevance =
    let own = in_own_class message in
    if is_silent message zone then []
    else if message.rcode == 0 || message.rcode == 3 then answer_offers relevance.lowest_ttl own zone moment limits ++ clearing_offers own zone moment relevance
    else failure_offers message moment limits
