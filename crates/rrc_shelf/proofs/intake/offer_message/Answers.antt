-- SPDX-License-Identifier: MIT
use Rattle.std.proofs.Common.{inr}
use Rattle.rrc_shelf.proofs.Taking.{map_ok, map_err}
use Rattle.rrc_shelf.proofs.intake.offer_message.Goals as goal

pub returns-clause-ok : goal.returns-clause-ok
returns-clause-ok c = map_ok c.take_each.result _ _ (λ all. record { offers = _; offered = c.in_ok-offered.ensures.offers; takes = all }) c.take_each.ensures.ok

pub returns-clause-err : goal.returns-clause-err
returns-clause-err c =
    map_err c.take_each.result _ _ (λ status first. inr (c.in_ok-offered.ensures.fit, record { offers = _; offered = c.in_ok-offered.ensures.offers; takes = first c.args.terms.now.moment c.in_ok-offered.ensures.moments })) c.take_each.ensures.err
