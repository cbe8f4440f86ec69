-- SPDX-License-Identifier: MIT
use Rattle.std.proofs.Common.{ℕ, List, subst}
use Rattle.rrc_history.specs.declared.event.Event.{Event}
use Rattle.rrc_history.specs.declared.snapshot.Snapshot.{Snapshot}
use Rattle.rrc_history.specs.Audits.{IsFirstBad}
use Rattle.rrc_cache.specs.Rechecks.{IsFault}
use Rattle.rrc_replay.proofs.AuditLemmas.{never_bad}
use Rattle.rrc_replay.proofs.audit.audit_whole.Goals as goal

pub returns-in-Err-FirstBad : goal.returns-in-Err-FirstBad
returns-in-Err-FirstBad c =
    let snapshot : Snapshot = c.whole.inside.snapshot in
    let events : List Event = c.whole.inside.events in
    let place : ℕ = c.in-Err-FirstBad.field-0-0.0 in
    let told : IsFirstBad c.deref.result.now c.as_slice.result.now place =
    subst (IsFault c.deref.result.now c.as_slice.result.now) c.in-Err-FirstBad.field-0-is c.in-Err-FirstBad.ensures.err in
    let of_events : IsFirstBad c.deref.result.now events place = subst (λ es. IsFirstBad c.deref.result.now es place) c.as_slice.ensures told in
    let bad : IsFirstBad snapshot events place = subst (λ s. IsFirstBad s events place) c.deref.ensures of_events in
    absurd (never_bad snapshot events place c.whole.invariant.legal bad)
