-- SPDX-License-Identifier: MIT
use Rattle.std.proofs.Common.{◌≡◌, ◌+◌, suc, arith}
use Rattle.rrc_replay.proofs.ArchiveLemmas.{alike_from, not_unlike}
use Rattle.rrc_replay.proofs.history.has_entries.Goals as goal

pub loop-place-preserved : goal.loop-place-preserved
loop-place-preserved c =
    let same : c.entry.result.now ≡ c.index-entries-place.result = not_unlike c.entry.result.now c.index-entries-place.result c.ne.result c.ne.ensures c.if-ne.false in
    let next : c.loop-place.place + 1 ≡ suc c.loop-place.place = omega arith in
    alike_from c.args.list.now c.args.entries.now c.loop-place.place (c.loop-place.place + 1) c.entry.result.now c.index-entries-place.result
    c.entry.result.now c.index-entries-place.result next (omega (arith, c.loop-place-test.true, c.len.ensures, c.if-len-entries.false))
    (omega (arith, c.len.ensures, c.if-len-entries.false)) c.entry.ensures c.index-entries-place.is same c.loop-place.invariant
