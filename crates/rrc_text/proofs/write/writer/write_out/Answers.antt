-- SPDX-License-Identifier: MIT
use Rattle.std.proofs.Common.{◌-◌, drop, length, arith, length-drop, length-take}
use Rattle.rrc_text.proofs.WriterLemmas.{Appends-more}
use Rattle.rrc_text.proofs.write.writer.write_out.Goals as goal

pub loop-preserved : goal.loop-preserved
loop-preserved g c =
    let octets = c.args.octets.now in (
      omega arith,
      omega (arith, length-take (length octets - c.loop.written) (drop c.loop.written octets), length-drop c.loop.written octets, c.in-Ok.ensures.bound),
      Appends-more (g.W.Write.contents c.args.writer.now) (g.W.Write.contents c.loop.writer) (g.W.Write.contents c.write.new.self)
          octets c.loop.written c.in-Ok.taken c.loop.invariant.2 c.in-Ok.ensures.bytes,
    )
