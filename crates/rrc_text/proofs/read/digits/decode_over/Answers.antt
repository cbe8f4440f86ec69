-- SPDX-License-Identifier: MIT
use Rattle.std.proofs.Common.{◌+◌, ◌*◌, arith}
use Rattle.std.specs.Prelude.{slice_index}
use Rattle.hex.proofs.Pairs.{decode_step, decode_done}
use Rattle.rrc_text.proofs.DigitLemmas.{pair_of_digits}
use Rattle.rrc_text.proofs.read.digits.decode_over.Goals as goal

pub loop-i-preserved : goal.loop-i-preserved
loop-i-preserved c =
    let digits = c.args.digits.now in let i = c.loop-i.i in let high = c.value_of.result in let low = c.value_of-in-loop-i.result in
    decode_step digits c.loop-i.octets i (high * 16 + low) (omega arith) (omega arith)
    (pair_of_digits (slice_index digits (2 * i)) (slice_index digits (2 * i + 1)) high low (2 * i) c.value_of.ensures.value c.value_of-in-loop-i.ensures.value)
    c.loop-i.invariant

pub returns : goal.returns
returns c = decode_done c.args.digits.now c.loop-i.octets c.loop-i.i (omega arith) (omega arith) c.loop-i.invariant
