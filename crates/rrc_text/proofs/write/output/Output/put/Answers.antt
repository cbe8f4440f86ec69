-- SPDX-License-Identifier: MIT
use Rattle.std.proofs.Common.{[], ◌++◌, ◌≡◌, true, sym, subst, append-nil}
use Rattle.rrc_text.specs.Writer.{AppendsFront}
use Rattle.rrc_text.specs.Output.{Stands}
use Rattle.rrc_text.proofs.OutputLemmas.{lost}
use Rattle.rrc_text.proofs.write.output.Output.put.Goals as goal

pub returns-else-not-self : goal.returns-else-not-self
returns-else-not-self g c =
    let new = c.make_room.new.self in
    let written = g.W.Write.contents new.writer.now in
    let puts = c.make_room.ensures.puts in
    let octets = c.args.octets.now in
    let failed : new.failed ≡ true = c.if-not-self.false in
    record {
      same = puts.same;
      stands = λ start given stands.
          let before = subst (λ failed. Stands start written new.buffer.now failed (given ++ [])) failed (puts.stands start given stands) in
          subst (λ failed. Stands start written new.buffer.now failed (given ++ octets)) (sym failed)
          (lost start written given octets (subst (AppendsFront start written) (append-nil given) before));
    }
