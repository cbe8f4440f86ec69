-- SPDX-License-Identifier: MIT
use Rattle.std.proofs.Common.{ℕ, List, Bool, Option, rules, ap, ◌∙◌}
use Rattle.std.specs.Prelude.{filter, not, ◌&&◌, ◌||◌}
use Rattle.std.proofs.lemmas.Fn.{filter_same}
use Rattle.rrc_history.specs.Fits.{OfferOf}
use Rattle.rrc_sets.specs.declared.rank.Section.TheVariants.{Authority}
use Rattle.rrc_sets.specs.Uniques.{uniques}
use Rattle.rrc_sets.specs.Kept.{IsOfRecords}
use Rattle.rrc_sets.specs.Offers.{section_offers}
use Rattle.rrc_sets.specs.Response.{of_response}
use Rattle.rrc_sets.specs.Relevant.{may_come_from, is_of_final_zone, may_refer, is_measured, same_type, relevant_authority}
use Rattle.rrc_sets.proofs.Subsets.{All-filter_same, All-uniques_same}
use Rattle.rrc_sets.proofs.relevant.relevant_authority.Goals as goal

pub returns-clause-value : goal.returns-clause-value
unfolding relevant_authority
returns-clause-value c =
    let message = c.args.response.message.now in let zone = c.args.response.zone.now in let relevance = c.args.relevance.now in
    let passes : Option (List ℕ) → OfferOf → Bool = λ final offer. (may_come_from zone offer && (is_of_final_zone final offer && (not relevance.only_referrals || may_refer message zone offer))) && is_measured relevance offer in
    let offers = of_response (section_offers Authority c.args.relevance.now.lowest_ttl) c.args.response in
    c.in_ok-firsts.ensures
    ∙ ap (uniques same_type) (filter_same _ (passes c.in_ok-name.name) _ (λ offer b f' k. search rules) _ _ c.retain.ensures.filtered
    ∙ (ap (filter (passes c.in_ok-name.name)) c.in_ok-offers.ensures.value
    ∙ ap (λ final. filter (passes final) offers) c.in_ok-name.ensures))

pub returns-clause-kept : goal.returns-clause-kept
returns-clause-kept c =
    let message = c.args.response.message.now in let zone = c.args.response.zone.now in let relevance = c.args.relevance.now in
    let passes : OfferOf → Bool = λ offer. (may_come_from zone offer && (is_of_final_zone c.in_ok-name.name offer && (not relevance.only_referrals || may_refer message zone offer))) && is_measured relevance offer in
    All-uniques_same IsOfRecords same_type _ _ c.in_ok-firsts.ensures
    (All-filter_same IsOfRecords passes _ _ (filter_same _ passes _ (λ offer b f' k. search rules) _ _ c.retain.ensures.filtered) c.in_ok-offers.ensures.kept)
