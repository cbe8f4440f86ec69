-- SPDX-License-Identifier: MIT
use Rattle.std.proofs.Common.{rules, ◌==◌}
use Rattle.std.proofs.lemmas.Fn.{filter_same}
use Rattle.rrc_history.specs.Fits.{OfferOf}
use Rattle.rrc_shelf.specs.Shelves.{keyed_part_of}
use Rattle.rrc_shelf.proofs.intake.own_share.Goals as goal

pub returns : goal.returns
returns c =
    filter_same _ (λ (offer : OfferOf). keyed_part_of c.args.terms.now.parts.seed offer.key.name c.args.terms.now.parts.count == c.args.terms.now.part) _ (λ offer b f' k. search rules) _ _ c.retain.ensures.filtered
