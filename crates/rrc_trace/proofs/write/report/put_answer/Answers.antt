-- SPDX-License-Identifier: MIT
use Rattle.std.proofs.Common.{◌∷◌, ◌++◌, subst, decimal}
use Rattle.rrc_text.specs.Output.{Puts}
use Rattle.rrc_trace.specs.Report.{offers_text}
use Rattle.rrc_text.specs.Replies.{reply_text}
use Rattle.rrc_text.proofs.OutputLemmas.{then}
use Rattle.rrc_trace.proofs.write.report.put_answer.Goals as goal

pub returns-in-Refused : goal.returns-in-Refused
returns-in-Refused g c =
    let puts = subst (λ number. Puts g.W.Write.contents c.put_word-in-Refused.new.output c.put_number.new.output (decimal number)) c.from.ensures
    c.put_number.ensures in
    rw c.in-Refused.is (then c.put_word-in-Refused.ensures puts)

pub returns-in-Held : goal.returns-in-Held
returns-in-Held g c = rw c.in-Held.is (then c.put_word-in-Held.ensures c.put_number-in-Held.ensures)

pub returns-in-Fetched : goal.returns-in-Fetched
returns-in-Fetched g c =
    let puts = subst (λ told. Puts g.W.Write.contents c.put_word-in-Fetched.new.output c.put_fetched.new.output (offers_text told ++ (32 ∷ reply_text c.in-Fetched.reply))) c.as_slice-in-Fetched.ensures
    c.put_fetched.ensures in
    rw c.in-Fetched.is (then c.put_word-in-Fetched.ensures puts)

pub returns-in-Put : goal.returns-in-Put
returns-in-Put g c = rw c.in-Put.is (then c.put_word.ensures c.put_told.ensures)

pub returns-in-Fail : goal.returns-in-Fail
returns-in-Fail g c = rw c.in-Fail.is (then c.put_word-in-Fail.ensures c.put_told-in-Fail.ensures)

pub returns-in-Hit : goal.returns-in-Hit
returns-in-Hit g c = rw c.in-Hit.is (then c.put_word-in-Hit.ensures c.put_reply.ensures)

pub returns-in-Ask : goal.returns-in-Ask
returns-in-Ask g c = rw c.in-Ask.is (then c.put_word-in-Ask.ensures c.put_reply-in-Ask.ensures)
