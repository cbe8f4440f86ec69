-- SPDX-License-Identifier: MIT
use Rattle.std.proofs.Common.{sym, subst, ◌∙◌}
use Rattle.rrc_history.specs.classless.Chapters.{LeadTo}
use Rattle.rrc_cache.specs.Classless.{fault_of, IsWhyNotLegal}
use Rattle.rrc_cache.specs.declared.rechecks.RecheckFault.{RecheckFault}
use Rattle.rrc_cache.proofs.Former.{ClosesBack, closes_back, not_legal, on_err}
use Rattle.rrc_cache.proofs.classless.closing_of.Goals as goal

pub returns-in_err-closing-clause-err : goal.returns-in_err-closing-clause-err
returns-in_err-closing-clause-err c =
    let fault : RecheckFault = c.in_err-closing.field-0.0 in
    on_err c.from_residual-in_err-closing.result (fault_of fault) (IsWhyNotLegal c.args.snapshot.now c.args.events.now) c.from_residual-in_err-closing.ensures.1
    (not_legal c.args.snapshot.now c.args.events.now c.in_ok-image.image c.as_slice.result.now fault c.in_ok-image.ensures
    (c.as_slice.ensures.value ∙ c.in_ok-images.ensures) c.in_err-closing.ensures.err)

pub snapshot_without_class-requires : goal.snapshot_without_class-requires
snapshot_without_class-requires c =
    let closes : ClosesBack c.args.snapshot.now c.args.events.now c.deref.result.now =
    closes_back c.args.snapshot.now c.args.events.now c.in_ok-image.image c.as_slice.result.now c.in_ok-closing.closing c.deref.result.now c.in_ok-image.ensures
    (c.as_slice.ensures.value ∙ c.in_ok-images.ensures) c.in_ok-closing.ensures.leaves c.in_ok-closing.ensures.rules c.in_ok-closing.ensures.first c.deref.ensures in
    closes.whole

pub returns-clause-ok : goal.returns-clause-ok
returns-clause-ok c =
    let closes : ClosesBack c.args.snapshot.now c.args.events.now c.deref.result.now =
    closes_back c.args.snapshot.now c.args.events.now c.in_ok-image.image c.as_slice.result.now c.in_ok-closing.closing c.deref.result.now c.in_ok-image.ensures
    (c.as_slice.ensures.value ∙ c.in_ok-images.ensures) c.in_ok-closing.ensures.leaves c.in_ok-closing.ensures.rules c.in_ok-closing.ensures.first c.deref.ensures in
    subst (LeadTo c.args.snapshot.now c.args.events.now) (sym c.in_ok-snapshot_without_class.ensures) closes.leads
