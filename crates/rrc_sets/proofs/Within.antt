-- SPDX-License-Identifier: MIT
-- No RRset that is relevant has more octets of rdata than the limit.
use Rattle.std.proofs.Common.{◌≡◌, ℕ, List, [], ◌++◌, Bool, true, false, refl, arith}
use Rattle.std.specs.Prelude.{filter, not, ◌||◌, ◌==◌, ◌&&◌}
use Rattle.std.specs.List.{All}
use Rattle.std.specs.Option.{option_to_list}
use Rattle.std.proofs.lemmas.Bool.Decides.{nat_tests}
use Rattle.std.proofs.lemmas.List.Elements.{All-nil, All-append, All-weaker, filter_passes}
use Rattle.rrc_history.specs.Fits.{OfferOf}
use Rattle.rrc_wire.specs.declared.message.Message.{Message}
use Rattle.rrc_sets.specs.declared.limits.Limits.{Limits}
use Rattle.rrc_sets.specs.declared.relevance.RelevanceLimits.{RelevanceLimits}
use Rattle.rrc_sets.specs.declared.rank.Section.TheVariants.{Answer, Authority, Additional}
use Rattle.rrc_sets.specs.Aliases.{final_name}
use Rattle.rrc_sets.specs.Classes.{in_own_class}
use Rattle.rrc_sets.specs.Cleared.{clearing_offers}
use Rattle.rrc_sets.specs.Denials.{negative_offer}
use Rattle.rrc_sets.specs.Offers.{section_offers, failure_offers, is_silent}
use Rattle.rrc_sets.specs.Relevant.{HasWithin, is_measured, may_come_from, is_of_final_zone, may_refer, same_type, relevant_answer, relevant_authority, relevant_additional, relevant_offers, relevant_of}
use Rattle.rrc_sets.proofs.Denying.{listed, chosen_list, of_denial, of_clearing, of_failure}
use Rattle.rrc_sets.proofs.Subsets.{All-uniques_same}

-- an offer that is measured has no more octets of rdata than the limit
measured : (relevance : RelevanceLimits) (offer : OfferOf) → is_measured relevance offer ≡ true → HasWithin relevance.octets offer
unfolding is_measured
measured relevance offer is = grind (arith, nat_tests)

both : (a b : Bool) → (a && b) ≡ true → b ≡ true
both true b is = is
both false b is = absurd (cc)

-- what is left by a test that measures
kept : (relevance : RelevanceLimits) (wanted : OfferOf → Bool) (offers : List OfferOf)
    → All (HasWithin relevance.octets) (filter (λ offer. wanted offer && is_measured relevance offer) offers)
kept relevance wanted offers =
    let test : OfferOf → Bool = λ offer. wanted offer && is_measured relevance offer in
    All-weaker (λ offer. test offer ≡ true) (HasWithin relevance.octets)
    (λ offer is. measured relevance offer (both (wanted offer) (is_measured relevance offer) is)) (filter test offers) (filter_passes test offers)

module _ (message : Message) (zone : List ℕ) (moment : ℕ) (limits : Limits) (relevance : RelevanceLimits) where
  of_answer : All (HasWithin relevance.octets) (relevant_answer message zone moment limits relevance)
  unfolding relevant_answer
  of_answer = kept relevance _ (section_offers Answer relevance.lowest_ttl message zone moment limits)

  of_authority : All (HasWithin relevance.octets) (relevant_authority message zone moment limits relevance)
  unfolding relevant_authority
  of_authority =
      let wanted : OfferOf → Bool = λ offer. may_come_from zone offer && (is_of_final_zone (final_name message) offer && (not relevance.only_referrals || may_refer message zone offer)) in
      let offers = section_offers Authority relevance.lowest_ttl message zone moment limits in
      All-uniques_same (HasWithin relevance.octets) same_type (relevant_authority message zone moment limits relevance)
      (filter (λ offer. wanted offer && is_measured relevance offer) offers) refl (kept relevance wanted offers)

  of_additional : (naming : List OfferOf) → All (HasWithin relevance.octets) (relevant_additional naming message zone moment limits relevance)
  unfolding relevant_additional
  of_additional naming = kept relevance _ (section_offers Additional relevance.lowest_ttl message zone moment limits)

  of_answering : All (HasWithin relevance.octets) (relevant_offers message zone moment limits relevance)
  unfolding relevant_offers
  of_answering =
      let P = HasWithin relevance.octets in
      let answer = relevant_answer message zone moment limits relevance in
      let authority = relevant_authority message zone moment limits relevance in
      let additional = relevant_additional (answer ++ authority) message zone moment limits relevance in
      let negative = negative_offer message zone moment limits in
      All-append P (answer ++ authority) (additional ++ option_to_list negative) (All-append P answer authority of_answer of_authority)
      (All-append P additional (option_to_list negative) (of_additional (answer ++ authority))
      (listed P negative (of_denial P message moment (λ key ttl name soa. omega arith) zone limits)))

-- no relevant offer has more octets of rdata than the limit
pub are_within : (message : Message) (zone : List ℕ) (moment : ℕ) (limits : Limits) (relevance : RelevanceLimits)
    → All (HasWithin relevance.octets) (relevant_of message zone moment limits relevance)
unfolding relevant_of
are_within message zone moment limits relevance =
    let P = HasWithin relevance.octets in let own = in_own_class message in
    let answering = relevant_offers own zone moment limits relevance in let ended = clearing_offers own zone moment relevance in
    chosen_list P (is_silent message zone) [] _ (All-nil P)
    (chosen_list P (message.rcode == 0 || message.rcode == 3) (answering ++ ended) (failure_offers message moment limits)
    (All-append P answering ended (of_answering own zone moment limits relevance) (of_clearing P own moment (λ key ttl name soa. omega arith) zone relevance))
    (of_failure P message moment limits (λ key. omega arith)))
