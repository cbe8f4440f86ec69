-- SPDX-License-Identifier: MIT
use Rattle.std.proofs.Common.{refl, sym, subst, append-nil}
use Rattle.rrc_text.specs.Writer.{AppendsFront}
use Rattle.rrc_text.specs.Output.{Stands}
use Rattle.rrc_text.proofs.OutputLemmas.{front_gone}
use Rattle.rrc_text.proofs.write.output.Output.spill.Goals as goal

pub returns-in-Err-clause-puts : goal.returns-in-Err-clause-puts
returns-in-Err-clause-puts g c =
    let contents = g.W.Write.contents in
    let old = c.args.self.now in
    let before = contents old.writer.now in
    let after = contents c.write_out.new.writer in
    let front : AppendsFront before after old.buffer.now = subst (AppendsFront before after) c.as_slice.ensures c.in-Err.ensures.front in
    record {
      same = refl;
      stands = λ start given stands.
          subst (AppendsFront start after) (sym (append-nil given))
          (front_gone start before after old.buffer.now given (subst (λ failed. Stands start before old.buffer.now failed given) c.if-self.false stands) front);
    }
