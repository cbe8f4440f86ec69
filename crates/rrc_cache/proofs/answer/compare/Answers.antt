-- SPDX-License-Identifier: MIT
use Rattle.std.specs.Option.{option_map}
use Rattle.rrc_history.specs.Views.{ask_in, held_in, reply_in}
use Rattle.rrc_cache.proofs.Answering.{answered_at}
use Rattle.rrc_cache.proofs.answer.compare.Goals as goal

pub returns : goal.returns
returns c = record {
  answer = reply_in c.judge-lookup.result.reply;
  answered = answered_at c.args.stale (ask_in c.args.ask) c.args.store.now.entries (reply_in c.judge-lookup.result.reply) (option_map held_in c.judge-lookup.result.entry) c.slot_of.result
      c.judge-lookup.ensures.reply c.judge-lookup.ensures.answering c.slot_of.ensures;
  told = c.is.ensures;
}
