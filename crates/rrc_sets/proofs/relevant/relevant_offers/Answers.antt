-- SPDX-License-Identifier: MIT
use Rattle.std.proofs.Common.{◌≡◌, sym, subst, subst₂}
use Rattle.std.specs.List.{All}
use Rattle.rrc_history.specs.Fits.{OfferOf}
use Rattle.rrc_sets.specs.Uniques.{AreSomeOf}
use Rattle.rrc_sets.specs.Relevant.{HasWithin, offers_by}
use Rattle.rrc_sets.proofs.Moments as moments
use Rattle.rrc_sets.proofs.SomeOffers as some
use Rattle.rrc_sets.proofs.Subsets.{All-some}
use Rattle.rrc_sets.proofs.Within.{are_within}
use Rattle.rrc_sets.proofs.relevant.relevant_offers.Goals as goal

pub returns-clause-some : goal.returns-clause-some
returns-clause-some c =
    let message = c.args.message.now in let zone = c.args.zone.now in let limits = c.args.limits.now in
    subst (λ offers. AreSomeOf offers (offers_by message zone c.args.moment limits c.args.relevance.now)) (sym c.in_ok-relevant_of.ensures.value)
    (some.of_message message zone c.args.moment limits c.args.relevance.now)

pub returns-clause-moments : goal.returns-clause-moments
returns-clause-moments c =
    let message = c.args.message.now in let zone = c.args.zone.now in let limits = c.args.limits.now in
    let offers = c.in_ok-relevant_of.field-0.items in
    All-some (λ (offer : OfferOf). offer.moment ≡ c.args.moment) offers (offers_by message zone c.args.moment limits c.args.relevance.now)
    (subst (λ found. AreSomeOf found (offers_by message zone c.args.moment limits c.args.relevance.now)) (sym c.in_ok-relevant_of.ensures.value)
    (some.of_message message zone c.args.moment limits c.args.relevance.now))
    (moments.of_offers_by message zone c.args.moment limits c.args.relevance.now)

pub returns-clause-within : goal.returns-clause-within
returns-clause-within c =
    let relevance = c.args.relevance.now in
    subst (All (HasWithin relevance.octets)) (sym c.in_ok-relevant_of.ensures.value) (are_within c.args.message.now c.args.zone.now c.args.moment c.args.limits.now relevance)

pub returns-clause-plain : goal.returns-clause-plain
returns-clause-plain c =
    let message = c.args.message.now in let zone = c.args.zone.now in let limits = c.args.limits.now in let relevance = c.args.relevance.now in
    λ same none. subst₂ AreSomeOf (sym c.in_ok-relevant_of.ensures.value) (some.plain_offers message zone c.args.moment limits relevance same none)
    (some.of_message message zone c.args.moment limits relevance)
