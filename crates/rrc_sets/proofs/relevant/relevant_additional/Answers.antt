-- SPDX-License-Identifier: MIT
use Rattle.std.proofs.Common.{ℕ, List, Bool, rules, ap, ◌∙◌}
use Rattle.std.specs.Prelude.{filter, ◌&&◌}
use Rattle.std.proofs.lemmas.Fn.{filter_same}
use Rattle.rrc_history.specs.Fits.{OfferOf}
use Rattle.rrc_sets.specs.declared.rank.Section.TheVariants.{Additional}
use Rattle.rrc_sets.specs.Kept.{IsOfRecords}
use Rattle.rrc_sets.specs.Offers.{section_offers}
use Rattle.rrc_sets.specs.Response.{of_response}
use Rattle.rrc_sets.specs.Relevant.{is_address_of, is_measured, relevant_additional}
use Rattle.rrc_sets.proofs.Subsets.{All-filter_same}
use Rattle.rrc_sets.proofs.relevant.relevant_additional.Goals as goal

pub returns-clause-value : goal.returns-clause-value
unfolding relevant_additional
returns-clause-value c =
    let passes : List (List ℕ) → OfferOf → Bool = λ hosts offer. is_address_of hosts offer && is_measured c.args.relevance.now offer in
    let offers = of_response (section_offers Additional c.args.relevance.now.lowest_ttl) c.args.response in
    filter_same _ (passes c.in_ok-hosts.hosts.items) _ (λ offer b f' k. search rules) _ _ c.retain.ensures.filtered
    ∙ (ap (filter (passes c.in_ok-hosts.hosts.items)) c.in_ok-offers.ensures.value
    ∙ ap (λ hosts. filter (passes hosts) offers) c.in_ok-hosts.ensures)

pub returns-clause-kept : goal.returns-clause-kept
returns-clause-kept c =
    let passes : OfferOf → Bool = λ offer. is_address_of c.in_ok-hosts.hosts.items offer && is_measured c.args.relevance.now offer in
    All-filter_same IsOfRecords passes _ _ (filter_same _ passes _ (λ offer b f' k. search rules) _ _ c.retain.ensures.filtered) c.in_ok-offers.ensures.kept
