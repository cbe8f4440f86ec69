-- SPDX-License-Identifier: MIT
use Rattle.std.proofs.Common.{sym, ap, ◌∙◌}
use Rattle.rrc_history.specs.declared.snapshot.Snapshot.{Snapshot}
use Rattle.rrc_history.specs.lemmas.SnapshotLaws.{sound_by}
use Rattle.rrc_history.proofs.Audited.{audited_first, audited_more, first_bad}
use Rattle.rrc_history.proofs.audits.audit.Goals as goal

pub loop-place-init : goal.loop-place-init
loop-place-init c =
    audited_first c.args.snapshot.now c.snapshot.inside.entries c.len-present.result
    (rw (← c.snapshot.view_is) (sound_by c.snapshot.inside.rules.capacity c.snapshot.inside.first c.snapshot.inside.entries c.snapshot.invariant))
    (ap (λ (s : Snapshot). s.entries) c.snapshot.view_is) c.len-present.ensures

pub returns-then-not-is_right-clause-err : goal.returns-then-not-is_right-clause-err
returns-then-not-is_right-clause-err c =
    first_bad c.args.snapshot.now c.args.events.now c.loop-place.place c.index-events-place.result c.loop-place.present c.loop-place-test.true c.index-events-place.is
    c.loop-place.invariant (sym c.is_right.ensures ∙ c.if-not-is_right.true)

pub loop-place-preserved : goal.loop-place-preserved
loop-place-preserved c =
    audited_more c.args.snapshot.now c.args.events.now c.loop-place.place c.index-events-place.result c.loop-place.present c.present_after-present.result
    c.loop-place-test.true c.index-events-place.is c.loop-place.invariant (sym c.is_right.ensures ∙ c.if-not-is_right.false) c.present_after-present.ensures
