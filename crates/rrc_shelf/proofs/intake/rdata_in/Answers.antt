-- SPDX-License-Identifier: MIT
use Rattle.std.proofs.Common.{[], ◌∷◌, sym, ◌∙◌, append-nil}
use Rattle.rrc_shelf.specs.Checks.{memory, number_of, unless, Refuses}
use Rattle.rrc_shelf.specs.Refusals.{AreData}
use Rattle.rrc_shelf.specs.Asks.{datum}
use Rattle.rrc_shelf.specs.declared.status.Status.TheVariants.{BadData}
use Rattle.rrc_shelf.proofs.Data.{datum_refused}
use Rattle.rrc_shelf.proofs.Refusing.{on_err}
use Rattle.rrc_shelf.proofs.intake.rdata_in.Goals as goal

pub returns-in_err-data_in-clause-refused : goal.returns-in_err-data_in-clause-refused
returns-in_err-data_in-clause-refused c =
    let only = c.in-Some.datum.now in
    let refusal = c.in_err-data_in.field-0.0 in
    on_err c.from_residual.result refusal (Refuses (memory ∷ unless BadData (AreData c.args.rtype c.args.octets.now) ∷ [])) c.from_residual.ensures.1
    (datum_refused c.args.rtype [] only [] c.args.octets.now (number_of refusal) (append-nil (datum only) ∙ sym c.in-Some.ensures) c.in_err-data_in.ensures.refused)
