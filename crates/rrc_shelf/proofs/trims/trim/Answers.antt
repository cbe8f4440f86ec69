-- SPDX-License-Identifier: MIT
use Rattle.rrc_shelf.specs.Checks.{refused_as}
use Rattle.rrc_shelf.specs.Upkeep.{TrimsUntil}
use Rattle.rrc_shelf.proofs.Refusing.{on_err}
use Rattle.rrc_shelf.proofs.Trimming.{stops}
use Rattle.rrc_shelf.proofs.trims.trim.Goals as goal

pub returns-in_err-removed-clause-err : goal.returns-in_err-removed-clause-err
returns-in_err-removed-clause-err c =
    on_err c.from_residual-in_err-removed.result (refused_as c.in_err-removed.field-0.0) (λ number. TrimsUntil number c.args.terms.now c.args.shelf.now c.trim.new.self) c.from_residual-in_err-removed.ensures.1
    (stops c.args.terms.now c.args.shelf.now c.trim.new.self c.in_err-removed.field-0.0 c.in_ok-check.ensures.fit
    (record { records = c.trim.ensures.records; evicts = c.trim.ensures.evicts }) c.in_err-removed.ensures.due c.in_err-removed.ensures.lean)
