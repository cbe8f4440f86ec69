-- SPDX-License-Identifier: MIT
use Rattle.std.proofs.Common.{◌≡◌, ℕ, length, take, refl, sym, ◌∙◌, map-id}
use Rattle.std.proofs.lemmas.Iterator.Consumers.{YieldsList-so_far, YieldsList-turn}
use Rattle.std.proofs.lemmas.Iterator.Adapters.{YieldsList-from_vec}
use Rattle.rrc_shelf.specs.Offers.{AreAt, TakesFirst}
use Rattle.rrc_shelf.specs.Checks.{number_of, refused_as}
use Rattle.rrc_shelf.proofs.Refusing.{on_err, write_refused}
use Rattle.rrc_shelf.proofs.Taking.{takes_more, takes_first, parts_at}
use Rattle.rrc_shelf.proofs.intake.take_each.Goals as goal

pub returns-in_err-outcome-clause-err : goal.returns-in_err-outcome-clause-err
returns-in_err-outcome-clause-err c =
    let offers = c.args.offers in
    let yielded = c.loop-offer.yielded in
    let gives = c.into_iter-offer-iterator.ensures.into_iter_gives in
    let from = YieldsList-from_vec {s = c.into_iter-offer-iterator.result} offers.items gives.0 (gives.1 ∙ offers.ok.0) in
    let first : yielded ≡ take (length yielded) offers.items = sym (map-id yielded) ∙ YieldsList-so_far from yielded c.loop-offer.offer-iterator c.loop-offer.yielded_by in
    let turn = YieldsList-turn from yielded c.loop-offer.offer-iterator c.loop-offer.yielded_by c.next.result c.next.new.self c.in-Some.offer c.in-Some.is c.next.ensures.steps in
    let refusal = c.in_err-outcome.field-0.0 in
    let middle = c.loop-offer.shelf in
    on_err c.from_residual.result (refused_as refusal) (λ number. (at : ℕ) → AreAt at offers.items → TakesFirst number c.args.line at offers.items c.loop-offer.counts c.args.shelf.now c.offer.new.self) c.from_residual.ensures.1
    (takes_first (number_of (refused_as refusal)) c.args.line offers.items yielded _ c.in-Some.offer c.loop-offer.counts c.args.shelf.now middle c.offer.new.self
    (parts_at offers.items yielded c.in-Some.offer first turn) turn c.loop-offer.invariant.0 (write_refused middle c.in-Some.offer.moment refusal c.in_err-outcome.ensures.due) (record { records = c.in_err-outcome.ensures.records; left = c.in_err-outcome.ensures.err }))

pub loop-offer-preserved : goal.loop-offer-preserved
loop-offer-preserved c =
    takes_more c.args.line c.loop-offer.yielded c.in-Some.offer c.in_ok-outcome.outcome c.loop-offer.counts c.count.new.counts c.args.shelf.now c.loop-offer.shelf c.offer.new.self _ c.loop-offer.invariant refl (record { records = c.in_ok-outcome.ensures.records; takes = c.in_ok-outcome.ensures.ok }) c.count.ensures
