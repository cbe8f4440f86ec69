-- SPDX-License-Identifier: MIT
use Rattle.std.proofs.Common.{◌∙◌, arith}
use Rattle.rrc_shelf.proofs.Filling.{room_for_next, narrow_next, fills_next}
use Rattle.rrc_shelf.proofs.text.fill.Goals as goal

pub put_datum-requires-clause-room : goal.put_datum-requires-clause-room
put_datum-requires-clause-room c =
    room_for_next c.args.owner.now c.args.items.now c.loop-octets.octets-index c.loop-octets.at _ c.as_slice-octets.result.now _ c.loop-octets-test.true (c.as_slice-octets.ensures ∙ c.octets-item.is) c.loop-octets.invariant.1 (omega (arith, c.requires.room, c.loop-octets.auto.buffer, c.put.auto.buffer))

pub put_datum-requires-clause-narrow : goal.put_datum-requires-clause-narrow
put_datum-requires-clause-narrow c =
    narrow_next c.args.items.now c.loop-octets.octets-index c.as_slice-octets.result.now _ c.loop-octets-test.true (c.as_slice-octets.ensures ∙ c.octets-item.is) c.requires.narrow

pub loop-octets-preserved : goal.loop-octets-preserved
loop-octets-preserved c =
    fills_next c.args.owner.now c.args.items.now c.loop-octets.octets-index c.loop-octets.at c.as_slice-octets.result.now _ c.args.buffer.now c.loop-octets.buffer c.put_datum.new.buffer c.loop-octets-test.true (c.as_slice-octets.ensures ∙ c.octets-item.is) c.loop-octets.invariant c.put_datum.ensures
