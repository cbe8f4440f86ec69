-- SPDX-License-Identifier: MIT
use Rattle.std.proofs.Common.{subst}
use Rattle.rrc_sets.specs.Message.{Brings}
use Rattle.rrc_shelf.proofs.intake.offers_in.Goals as goal

pub returns-clause-offers : goal.returns-clause-offers
returns-clause-offers c =
    let limits = c.in_ok-limits.limits in let made = c.in_ok-made.made.items in
    record {
      zone_is = c.in_ok-zone.ensures.wire_form;
      limits = limits;
      are_limits = c.in_ok-limits.ensures.limits;
      brought = subst (λ zone. Brings limits c.args.octets.now zone c.args.terms.now.moment made) c.in_ok-zone.ensures.name c.in_ok-made.ensures.offers;
    }

pub returns-clause-moments : goal.returns-clause-moments
returns-clause-moments c = c.in_ok-made.ensures.moments
