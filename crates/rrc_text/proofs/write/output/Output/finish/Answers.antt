-- SPDX-License-Identifier: MIT
use Rattle.std.proofs.Common.{[], ◌++◌, subst, append-nil}
use Rattle.rrc_text.specs.Writer.{AppendsFront}
use Rattle.rrc_text.proofs.OutputLemmas.{front_stands, front_kept}
use Rattle.rrc_text.proofs.write.output.Output.finish.Goals as goal

pub returns-in-Err-clause-front : goal.returns-in-Err-clause-front
returns-in-Err-clause-front g c start given stands =
    let contents = g.W.Write.contents in
    let between = c.spill.new.self in
    let written = contents between.writer.now in
    let after = contents c.flush.new.self in
    let front = front_stands start written between.buffer.now (given ++ []) between.failed (c.spill.ensures.puts.stands start given stands) in
    subst (AppendsFront start after) (append-nil given) (front_kept start written after (given ++ []) front c.in-Err.ensures.bytes)
