-- SPDX-License-Identifier: MIT
use Rattle.std.proofs.Common.{inl}
use Rattle.rrc_shelf.specs.Checks.{Due}
use Rattle.rrc_shelf.specs.Refusals.{denial_checks, WriteDue}
use Rattle.rrc_shelf.proofs.Refusing.{refused_told}
use Rattle.rrc_shelf.proofs.intake.take_negative.Goals as goal

pub returns-in_err-offer-clause-due : goal.returns-in_err-offer-clause-due
returns-in_err-offer-clause-due c =
    refused_told c.from_residual.result c.in_err-offer.field-0.0
    (Due (denial_checks c.args.name.now c.args.negative.now c.args.soa_owner.now c.args.soa.now) (WriteDue c.args.shelf.now c.args.negative.now.moment)) c.from_residual.ensures.1
    (inl c.in_err-offer.ensures.refused)
