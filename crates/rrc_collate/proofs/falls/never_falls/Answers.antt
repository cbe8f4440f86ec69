-- SPDX-License-Identifier: MIT
use Rattle.std.proofs.Common.{◌<◌, length, get_or, arith}
use Rattle.std.proofs.lemmas.List.{get_or_read}
use Rattle.rrc_collate.specs.declared.valued.Valued.{Valued}
use Rattle.rrc_collate.proofs.FallLemmas.{falls_at, rises_all}
use Rattle.rrc_collate.proofs.falls.never_falls.Goals as goal

pub returns-then-next-index : goal.returns-then-next-index
returns-then-next-index c =
    let lasts = c.loop-next.lasts.items in
    let d : Valued = record { class = 0; value = 0 } in
    let next = get_or c.args.values.now c.loop-next.next-index d in
    let place = c.requires c.loop-next.next-index d c.loop-next-test.true in
    let within : next.class < length lasts = omega (arith, place, c.loop-next.invariant.size) in
    let read = get_or_read lasts next.class c.index.result.now within c.index.ensures 0 in
    falls_at c.args.classes lasts c.args.values.now c.loop-next.next-index d c.requires c.loop-next-test.true c.loop-next.invariant.same
    (omega (arith, read, c.if-next-index.true))

pub returns : goal.returns
returns c = rises_all c.args.classes c.loop-next.lasts.items c.args.values.now c.loop-next.next-index c.requires (omega (arith, c.loop-next-test.false)) c.loop-next.invariant.same
