-- SPDX-License-Identifier: MIT
-- What a response comes to for the question that a zone's servers were asked (RFC 1034 5.3.3, RFC 2308 2).
use Rattle.std.specs.Prelude.{ℕ, zero, suc, List, Bool, true, ◌&&◌, ◌||◌, not, ◌==◌, if◌then◌else◌, Option, Some, None, find, is_some}
use Rattle.std.specs.List.{list_any, list_all}
use Rattle.std.specs.Option.{option_map_or}
use Rattle.rrc_name.specs.Wire.{same_name}
use Rattle.rrc_name.specs.Order.{is_at_or_below}
use Rattle.rrc_wire.specs.declared.record.Rr.{Rr}
use Rattle.rrc_wire.specs.declared.message.Message.{Message}
use Rattle.rrc_wire.specs.Layout.{is_kept}
use Rattle.rrc_sets.specs.declared.kind.ResponseKind.{ResponseKind}
use Rattle.rrc_sets.specs.declared.kind.ResponseKind.TheVariants.{Answer, UnequalTtls, NoData, NxDomain, Referral, Alias, Failure, Unusable}
use Rattle.rrc_sets.specs.declared.relevance.RelevanceLimits.{RelevanceLimits}
use Rattle.rrc_sets.specs.Aliases.{is_of, target_of}
use Rattle.rrc_sets.specs.Classes.{in_own_class}
use Rattle.rrc_sets.specs.Denials.{soa_of}
use Rattle.rrc_sets.specs.Offers.{is_silent}

-- ---- where the aliases lead

-- the last of so many names of a chain of aliases at most, or the first one outside the zone, whose servers say nothing of it
unfoldable pub end_within : List ℕ → ℕ → List Rr → List ℕ → Option (List ℕ)
end_within zone zero answer name = None
end_within zone (suc names) answer name =
    if is_at_or_below name zone then option_map_or (end_within zone names answer) (target_of answer name) (Some name) else Some name

-- the name that a response is about in the end: 16 aliases behind the question's at most, and the question's where aliases were asked for
abbrev pub name_meant : Message → List ℕ → Option (List ℕ)
name_meant message zone =
    let question = message.question in
    if question.qtype == 5 || question.qtype == 255 then Some question.name else end_within zone 17 message.answer question.name

-- ---- what stands there

-- whether a record answers a question under a name: QTYPE 255 asks for all types (RFC 1035 3.2.3)
abbrev pub is_answer : ℕ → List ℕ → Rr → Bool
is_answer qtype name rr = (qtype == 255 || rr.rtype == qtype) && same_name rr.owner name

-- whether the records of a type under a name have one time to live, as written
abbrev pub have_one_ttl : List Rr → ℕ → List ℕ → Bool
have_one_ttl answer rtype name =
    option_map_or (λ (first : Rr). list_all (λ rr. not (is_of rtype name rr) || rr.ttl == first.ttl) answer) (find (is_of rtype name) answer) true

-- whether the RRset that answers has a life (RFC 2181 5.2)
abbrev pub has_life : Message → List ℕ → RelevanceLimits → Bool
has_life message name relevance = message.aa || (relevance.lowest_ttl || have_one_ttl message.answer message.question.qtype name)

-- whether records of the type that was asked for are read: others are read over, and so no one knows whether there are any
abbrev pub is_read : Message → Bool
is_read message = message.question.qtype == 255 || is_kept message.question.qtype message.question.qclass

-- whether a record leads from a zone to another one below it that a name is in (RFC 1034 4.3.2)
abbrev pub leads_below : List ℕ → List ℕ → Rr → Bool
leads_below zone name rr = rr.rtype == 2 && (is_at_or_below name rr.owner && (is_at_or_below rr.owner zone && not (same_name rr.owner zone)))

-- ---- the kinds

-- that there are no data of the type, where those that there may be are read
abbrev pub no_data : Message → ResponseKind
no_data message = if is_read message then NoData else Unusable

-- what an NS record that leads below comes to: a referral has AA clear, and where data are read over RA too
abbrev pub leading : Message → Rr → ResponseKind
leading message rr = if message.aa || (message.ra && not (is_read message)) then Unusable else Referral rr.owner

-- NOERROR, and neither data nor a SOA record of a name that no alias led to: a referral, or else whoever is an authority or recurses says
-- that there are no data (RFC 2308 2.2)
abbrev pub kind_of_little : Message → List ℕ → List ℕ → ResponseKind
kind_of_little message zone name =
    option_map_or (leading message) (find (leads_below zone name) message.authority) (if message.aa || message.ra then no_data message else Unusable)

-- NOERROR, and no data of the type: a SOA record says so (RFC 2308 2.2), or an alias leads on to the name
unfoldable pub kind_of_none : Message → List ℕ → List ℕ → ResponseKind
kind_of_none message zone name =
    if is_some (soa_of message zone name) then no_data message
    else if not (same_name name message.question.name) then Alias name
    else kind_of_little message zone name

-- what it comes to for a name in the zone
unfoldable pub kind_within : Message → List ℕ → List ℕ → RelevanceLimits → ResponseKind
kind_within message zone name relevance =
    if list_any (is_answer message.question.qtype name) message.answer then (if has_life message name relevance then Answer else UnequalTtls)
    else if not (message.rcode == 3) then kind_of_none message zone name
    else if list_any (λ rr. same_name rr.owner name) message.answer then Unusable
    else NxDomain

-- the same for any name
abbrev pub kind_at : Message → List ℕ → RelevanceLimits → List ℕ → ResponseKind
kind_at message zone relevance name = if is_at_or_below name zone then kind_within message zone name relevance else Alias name

-- what a response comes to
unfoldable pub kind_of : Message → List ℕ → RelevanceLimits → ResponseKind
kind_of message zone relevance =
    let own = in_own_class message in
    if is_silent message zone then Unusable
    else if message.rcode == 0 || message.rcode == 3 then option_map_or (kind_at own zone relevance) (name_meant own zone) Unusable
    else Failure
