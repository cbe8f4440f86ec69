-- SPDX-License-Identifier: MIT
use Rattle.rrc_shelf.proofs.Sharing.{placed_at}
use Rattle.rrc_shelf.proofs.message.reading_of.Goals as goal

pub invariant_of-new : goal.invariant_of-new
invariant_of-new c =
    record { moments = placed_at c.args.terms.now.parts c.args.terms.now.moment c.args.offers.items c.in_ok-placed.placed.items c.in_ok-placed.ensures.placed c.requires.moments }
