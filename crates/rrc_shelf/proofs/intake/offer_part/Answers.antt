-- SPDX-License-Identifier: MIT
use Rattle.std.proofs.Common.{rules, ◌≡◌, subst, inr}
use Rattle.std.proofs.lemmas.List.Elements.{All-filter}
use Rattle.rrc_history.specs.Fits.{OfferOf}
use Rattle.rrc_shelf.specs.Checks.{number_of, Passes}
use Rattle.rrc_shelf.specs.Offers.{part_checks, AreAt, TakesAll, TakesFirst}
use Rattle.rrc_shelf.proofs.Taking.{map_ok, map_err}
use Rattle.rrc_shelf.proofs.intake.offer_part.Goals as goal

pub returns-clause-ok : goal.returns-clause-ok
returns-clause-ok c =
    map_ok c.take_each.result _ _
    (λ all. record {
      offers = _;
      offered = c.in_ok-offered.ensures.offers;
      takes = subst (λ offers. TakesAll c.args.terms.now.line offers c.take_each.new.counts c.args.shelf.now c.take_each.new.shelf) c.own_share.ensures all;
    })
    c.take_each.ensures.ok

pub returns-clause-err : goal.returns-clause-err
returns-clause-err c =
    let at = c.args.terms.now.moment in
    let seeded : c.args.terms.now.parts.seed ≡ c.args.seed.now = search rules in
    let fit = c.in_ok-offered.ensures.fit in
    let passes : Passes (part_checks c.args.octets.now c.args.zone.now c.args.terms.now c.args.seed.now) = (c.in_ok-check_part.ensures.fit, (c.in_ok-check_seed.ensures.fit, (fit.0, (tt, (fit.1.1.0, (fit.1.1.1.0, (seeded, tt))))))) in
    map_err c.take_each.result _ _
    (λ status first. inr (
      passes,
      record {
        offers = _;
        offered = c.in_ok-offered.ensures.offers;
        takes = subst (λ offers. AreAt at offers → TakesFirst (number_of status) c.args.terms.now.line at offers c.take_each.new.counts c.args.shelf.now c.take_each.new.shelf)
            c.own_share.ensures (first at)
            (All-filter _ (λ (offer : OfferOf). offer.moment ≡ at) c.in_ok-offered.offered.items c.in_ok-offered.ensures.moments);
      },
    ))
    c.take_each.ensures.err
