-- SPDX-License-Identifier: MIT
use Rattle.std.proofs.Common.{arith}
use Rattle.rrc_history.proofs.Places.{length_of}
use Rattle.rrc_history.proofs.entry_list.EntryList.len.Goals as goal

pub returns : goal.returns
returns c =
    let whole = length_of c.self.inside.own.items c.self.inside.batched.batches.items c.self.inside.batched.places.items c.args.self.now c.self.view_is c.self.invariant.0 in
    omega (arith, whole, c.len.ensures, c.len-2.ensures)
