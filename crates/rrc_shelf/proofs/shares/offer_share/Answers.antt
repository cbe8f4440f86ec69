-- SPDX-License-Identifier: MIT
use Rattle.std.proofs.Common.{ℕ, subst, inr}
use Rattle.rrc_shelf.specs.Offers.{AreAt, TakesAll, TakesFirst}
use Rattle.rrc_shelf.specs.Checks.{number_of}
use Rattle.rrc_shelf.proofs.Sharing.{share_at}
use Rattle.rrc_shelf.proofs.Taking.{map_ok, map_err}
use Rattle.rrc_shelf.proofs.shares.offer_share.Goals as goal

pub returns-clause-ok : goal.returns-clause-ok
returns-clause-ok c =
    map_ok c.take_each.result _ _ (λ all. subst (λ offers. TakesAll c.args.share.now.line offers c.take_each.new.counts c.args.shelf.now c.take_each.new.shelf) c.in_ok-offers.ensures.share all) c.take_each.ensures.ok

pub returns-clause-err : goal.returns-clause-err
returns-clause-err c =
    map_err c.take_each.result _ _
    (λ status first. inr (
      c.in_ok-offers.ensures.fit,
      subst (λ offers. (at : ℕ) → AreAt at offers → TakesFirst (number_of status) c.args.share.now.line at offers c.take_each.new.counts c.args.shelf.now c.take_each.new.shelf) c.in_ok-offers.ensures.share first
          c.args.reading.now.moment (share_at c.args.share.now.part c.args.reading.now),
    ))
    c.take_each.ensures.err
