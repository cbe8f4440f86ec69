-- SPDX-License-Identifier: MIT
use Rattle.std.proofs.Common.{Err, subst}
use Rattle.rrc_cache.specs.Part.{IsCloseDue}
use Rattle.rrc_report.proofs.WholeParts.{one_spent}
use Rattle.rrc_report.proofs.wholes.shut.Goals as goal

pub returns-in-Err-HistoryFull-clause-err : goal.returns-in-Err-HistoryFull-clause-err
returns-in-Err-HistoryFull-clause-err c =
    let is = c.in-Err-HistoryFull.field-0-is in
    let due = subst (λ refusal. IsCloseDue {A = Unit {0}} c.args.shelf.now.part (Err refusal)) is c.in-Err-HistoryFull.ensures.due in
    one_spent c.args.lines c.args.shelf.now due
