-- SPDX-License-Identifier: MIT
use Rattle.std.proofs.Common.{◌≡◌, true, false, arith}
use Rattle.rrc_history.specs.Equality.{entry_eq}
use Rattle.rrc_history.proofs.Places.{unlike_at, like_at, denied, granted}
use Rattle.rrc_history.proofs.entry_list.are_same.Goals as goal

pub returns-then-ne : goal.returns-then-ne
returns-then-ne c =
    let unlike : entry_eq c.entry.result.now c.entry-in-loop-place.result.now ≡ false = denied _ c.ne.result c.ne.ensures c.if-ne.true in
    unlike_at entry_eq c.args.list.now c.args.other.now c.loop-place.place c.entry.result.now c.entry-in-loop-place.result.now
    (omega (arith, c.loop-place-test.true, c.len-place-end.ensures)) c.requires c.entry.ensures c.entry-in-loop-place.ensures c.loop-place.invariant unlike

pub loop-place-preserved : goal.loop-place-preserved
loop-place-preserved c =
    let like : entry_eq c.entry.result.now c.entry-in-loop-place.result.now ≡ true = granted _ c.ne.result c.ne.ensures c.if-ne.false in
    like_at entry_eq c.args.list.now c.args.other.now c.loop-place.place c.entry.result.now c.entry-in-loop-place.result.now
    (omega (arith, c.loop-place-test.true, c.len-place-end.ensures)) c.requires c.entry.ensures c.entry-in-loop-place.ensures c.loop-place.invariant like
