-- SPDX-License-Identifier: MIT
use Rattle.std.proofs.Common.{arith}
use Rattle.rrc_trace.proofs.AheadLemmas.{slice_range-behind}
use Rattle.rrc_trace.proofs.read.ahead.Ahead.take.Goals as goal

pub returns : goal.returns
returns c =
    let a = c.self.inside in
    let few = rw (← c.self.view_is) at c.requires in
    rw (← c.self.view_is) (slice_range-behind a.chunk.items a.start a.end c.args.count (omega (arith, c.self.invariant.1)) few)
