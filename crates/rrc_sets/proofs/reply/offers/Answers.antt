-- SPDX-License-Identifier: MIT
use Rattle.rrc_sets.proofs.Moments.{of_one_moment}
use Rattle.rrc_sets.proofs.reply.offers.Goals as goal

pub returns-clause-moments : goal.returns-clause-moments
returns-clause-moments c =
    of_one_moment c.args.message.now c.args.zone.now c.args.moment c.args.limits.now c.in_ok-offers_of.field-0.items c.in_ok-offers_of.ensures.value
