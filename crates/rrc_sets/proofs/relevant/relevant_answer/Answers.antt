-- SPDX-License-Identifier: MIT
use Rattle.std.proofs.Common.{ℕ, List, Bool, rules, ap, ◌∙◌}
use Rattle.std.specs.Prelude.{filter, ◌&&◌}
use Rattle.std.proofs.lemmas.Fn.{filter_same}
use Rattle.rrc_history.specs.Fits.{OfferOf}
use Rattle.rrc_sets.specs.declared.rank.Section.TheVariants.{Answer}
use Rattle.rrc_sets.specs.Kept.{IsOfRecords}
use Rattle.rrc_sets.specs.Offers.{section_offers}
use Rattle.rrc_sets.specs.Response.{of_response}
use Rattle.rrc_sets.specs.Relevant.{may_come_from, is_on_chain, is_measured, relevant_answer}
use Rattle.rrc_sets.proofs.Subsets.{All-filter_same}
use Rattle.rrc_sets.proofs.relevant.relevant_answer.Goals as goal

pub returns-clause-value : goal.returns-clause-value
unfolding relevant_answer
returns-clause-value c =
    let qtype = c.args.response.message.now.question.qtype in
    let passes : List (List ℕ) → OfferOf → Bool = λ names offer. (may_come_from c.args.response.zone.now offer && is_on_chain qtype names offer) && is_measured c.args.relevance.now offer in
    let offers = of_response (section_offers Answer c.args.relevance.now.lowest_ttl) c.args.response in
    filter_same _ (passes c.in_ok-names.names.items) _ (λ offer b f' k. search rules) _ _ c.retain.ensures.filtered
    ∙ (ap (filter (passes c.in_ok-names.names.items)) c.in_ok-offers.ensures.value
    ∙ ap (λ names. filter (passes names) offers) c.in_ok-names.ensures)

pub returns-clause-kept : goal.returns-clause-kept
returns-clause-kept c =
    let qtype = c.args.response.message.now.question.qtype in
    let passes : OfferOf → Bool = λ offer. (may_come_from c.args.response.zone.now offer && is_on_chain qtype c.in_ok-names.names.items offer) && is_measured c.args.relevance.now offer in
    All-filter_same IsOfRecords passes _ _ (filter_same _ passes _ (λ offer b f' k. search rules) _ _ c.retain.ensures.filtered) c.in_ok-offers.ensures.kept
