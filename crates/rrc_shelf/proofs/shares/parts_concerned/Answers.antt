-- SPDX-License-Identifier: MIT
use Rattle.std.proofs.Common.{arith}
use Rattle.rrc_shelf.proofs.Sharing.{bits_fit, bits_more}
use Rattle.rrc_shelf.proofs.shares.parts_concerned.Goals as goal

pub loop-part-preserved : goal.loop-part-preserved
loop-part-preserved c = bits_more c.args.placed.now c.loop-part.part c.loop-part.bits c.bit_of-bits.result c.loop-part.invariant c.bit_of-bits.ensures

pub overflow_add-bits : goal.overflow_add-bits
overflow_add-bits c =
    let below = c.loop-part-test.true in let few = c.requires in
    let fits = bits_fit c.args.placed.now c.loop-part.part c.loop-part.bits c.bit_of-bits.result c.loop-part.invariant.1 c.bit_of-bits.ensures (omega (arith, below, few)) in
    omega (arith, fits)
