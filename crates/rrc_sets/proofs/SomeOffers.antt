-- SPDX-License-Identifier: MIT
-- What is relevant of a message is some of what it offers.
use Rattle.std.proofs.Common.{◌≡◌, ℕ, List, [], ◌++◌, Bool, true, false, cond, refl, sym, ap, ap₂, ◌∙◌, subst, append_assoc}
use Rattle.std.proofs.lemmas.List.{append-nil}
use Rattle.std.specs.Prelude.{filter, not, ◌||◌, ◌==◌, ◌&&◌}
use Rattle.std.specs.Option.{option_map_or, option_to_list}
use Rattle.rrc_history.specs.Fits.{OfferOf}
use Rattle.rrc_wire.specs.declared.message.Message.{Message}
use Rattle.rrc_sets.specs.declared.limits.Limits.{Limits}
use Rattle.rrc_sets.specs.declared.relevance.RelevanceLimits.{RelevanceLimits}
use Rattle.rrc_sets.specs.declared.rank.Section.TheVariants.{Answer, Authority, Additional}
use Rattle.rrc_sets.specs.Uniques.{AreSomeOf}
use Rattle.rrc_sets.specs.Aliases.{final_name}
use Rattle.rrc_sets.specs.Denials.{negative_offer}
use Rattle.rrc_sets.specs.Classes.{in_own_class}
use Rattle.rrc_sets.specs.Cleared.{cleared_under, clearing_offers}
use Rattle.rrc_sets.specs.Offers.{section_offers, answer_offers, failure_offers, is_silent, offers_of}
use Rattle.rrc_sets.specs.Relevant.{may_come_from, is_of_final_zone, may_refer, is_measured, same_type, relevant_answer, relevant_authority, relevant_additional, relevant_offers, relevant_of, offers_by}
use Rattle.rrc_sets.proofs.Subsets.{whole, of_filter, of_uniques, of_some, of_append}

module _ (message : Message) (zone : List ℕ) (moment : ℕ) (limits : Limits) (relevance : RelevanceLimits) where
  of_answer : AreSomeOf (relevant_answer message zone moment limits relevance) (section_offers Answer relevance.lowest_ttl message zone moment limits)
  unfolding relevant_answer
  of_answer = of_filter _ (section_offers Answer relevance.lowest_ttl message zone moment limits)

  of_authority : AreSomeOf (relevant_authority message zone moment limits relevance) (section_offers Authority relevance.lowest_ttl message zone moment limits)
  unfolding relevant_authority
  of_authority =
      let offers = section_offers Authority relevance.lowest_ttl message zone moment limits in
      let wanted : OfferOf → Bool = λ offer. may_come_from zone offer && (is_of_final_zone (final_name message) offer && (not relevance.only_referrals || may_refer message zone offer)) in
      let own : List OfferOf = filter (λ offer. wanted offer && is_measured relevance offer) offers in
      of_some (relevant_authority message zone moment limits relevance) own offers (of_uniques same_type own) (of_filter _ offers)

  of_additional : (naming : List OfferOf) → AreSomeOf (relevant_additional naming message zone moment limits relevance) (section_offers Additional relevance.lowest_ttl message zone moment limits)
  unfolding relevant_additional
  of_additional naming = of_filter _ (section_offers Additional relevance.lowest_ttl message zone moment limits)

  of_answering : AreSomeOf (relevant_offers message zone moment limits relevance) (answer_offers relevance.lowest_ttl message zone moment limits)
  unfolding relevant_offers answer_offers
  of_answering =
      let first = relevant_answer message zone moment limits relevance in
      let second = relevant_authority message zone moment limits relevance in
      let third = relevant_additional (first ++ second) message zone moment limits relevance in
      let answer = section_offers Answer relevance.lowest_ttl message zone moment limits in
      let authority = section_offers Authority relevance.lowest_ttl message zone moment limits in
      let additional = section_offers Additional relevance.lowest_ttl message zone moment limits in
      let denial = option_to_list (negative_offer message zone moment limits) in
      subst (λ offers. AreSomeOf offers (answer ++ (authority ++ (additional ++ denial)))) (sym (append_assoc first second (third ++ denial)))
      (of_append first answer (second ++ (third ++ denial)) (authority ++ (additional ++ denial)) of_answer
      (of_append second authority (third ++ denial) (additional ++ denial) of_authority
      (of_append third additional denial denial (of_additional (first ++ second)) (whole denial))))

chosen : (test : Bool) (first second all others : List OfferOf) → AreSomeOf first all → AreSomeOf second others → AreSomeOf (cond test first second) (cond test all others)
chosen true first second all others are rest = are
chosen false first second all others are rest = rest

-- what is relevant of a message is some of its offers, in their order
pub of_message : (message : Message) (zone : List ℕ) (moment : ℕ) (limits : Limits) (relevance : RelevanceLimits)
    → AreSomeOf (relevant_of message zone moment limits relevance) (offers_by message zone moment limits relevance)
unfolding relevant_of offers_by
of_message message zone moment limits relevance =
    let own = in_own_class message in let failure = failure_offers message moment limits in
    let cleared = clearing_offers own zone moment relevance in
    let relevant = relevant_offers own zone moment limits relevance in let all = answer_offers relevance.lowest_ttl own zone moment limits in
    let answers = message.rcode == 0 || message.rcode == 3 in
    chosen (is_silent message zone) [] (cond answers (relevant ++ cleared) failure) [] (cond answers (all ++ cleared) failure) refl
    (chosen answers (relevant ++ cleared) failure (all ++ cleared) failure
    (of_append relevant all cleared cleared (of_answering own zone moment limits relevance) (whole cleared)) (whole failure))

-- where neither TTLs that differ nor denials count for more, these are the message's offers
pub plain_offers : (message : Message) (zone : List ℕ) (moment : ℕ) (limits : Limits) (relevance : RelevanceLimits) → relevance.lowest_ttl ≡ false
    → relevance.clears_denied ≡ false → offers_by message zone moment limits relevance ≡ offers_of message zone moment limits
unfolding offers_by offers_of clearing_offers
plain_offers message zone moment limits relevance same none =
    let own = in_own_class message in
    let cleared : clearing_offers own zone moment relevance ≡ [] = ap (λ b. cond (b && (own.aa && own.rcode == 3)) (option_map_or (cleared_under own zone moment) (final_name own) []) []) none in
    ap₂ (λ lowest more. cond (is_silent message zone) [] (cond (message.rcode == 0 || message.rcode == 3) (answer_offers lowest own zone moment limits ++ more) (failure_offers message moment limits))) same cleared
    ∙ ap (λ offers. cond (is_silent message zone) [] (cond (message.rcode == 0 || message.rcode == 3) offers (failure_offers message moment limits))) (append-nil (answer_offers false own zone moment limits))
