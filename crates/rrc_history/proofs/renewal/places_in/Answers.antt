-- SPDX-License-Identifier: MIT
use Rattle.std.proofs.Common.{◌<◌, [], length, slice_index_or, List, refl, arith}
use Rattle.rrc_history.specs.declared.snapshot.Entry.{Entry}
use Rattle.rrc_history.specs.declared.entry_list.Place.{Place}
use Rattle.rrc_history.proofs.Renewed.{named_more, filled_more}
use Rattle.rrc_history.proofs.renewal.places_in.Goals as goal

pub loop-place-preserved : goal.loop-place-preserved
loop-place-preserved c =
    let batch : List Entry = slice_index_or c.args.batches.now c.args.batch [] in
    let place : Place = record { batch = c.args.batch; place = c.loop-place.place } in
    let less : c.loop-place.place < length batch = omega (arith, c.size_of-place-end.ensures, c.loop-place-test.true) in (
      named_more c.args.batches.now c.loop-place.places.items c.push.new.self.items place batch c.loop-place.place c.loop-place.invariant.0 less refl refl c.in_ok-push.ensures.items,
      filled_more c.args.batches.now c.loop-place.places.items c.push.new.self.items place batch c.loop-place.place c.loop-place.invariant.1 less refl refl c.in_ok-push.ensures.items,
    )
