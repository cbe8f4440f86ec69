-- SPDX-License-Identifier: MIT
use Rattle.rrc_cache.proofs.Rechecked.{rechecked_first, rechecked_more, first_bad}
use Rattle.rrc_cache.proofs.rechecks.replayed.Goals as goal

pub loop-place-init : goal.loop-place-init
loop-place-init c = rechecked_first c.args.snapshot.now c.args.seeded c.in_ok-store.store c.of.ensures.sound c.in_ok-store.ensures.ok

pub returns-then-not-branch-clause-err : goal.returns-then-not-branch-clause-err
returns-then-not-branch-clause-err c =
    first_bad c.args.snapshot.now c.args.events.now c.loop-place.place c.index-events-place.result c.loop-place.store c.loop-place-test.true c.index-events-place.is
    c.loop-place.invariant (c.in_ok-is_right.ensures.wrong c.if-not-branch.true)

pub loop-place-preserved : goal.loop-place-preserved
loop-place-preserved c =
    rechecked_more c.args.snapshot.now c.args.events.now c.loop-place.place c.index-events-place.result c.loop-place.store c.is_right.new.store
    c.loop-place-test.true c.index-events-place.is c.loop-place.invariant (c.in_ok-is_right.ensures.right c.if-not-branch.false) c.is_right.ensures.stale
