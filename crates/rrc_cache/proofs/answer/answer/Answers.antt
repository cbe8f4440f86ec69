-- SPDX-License-Identifier: MIT
use Rattle.std.proofs.Common.{◌≡◌, ◌∙◌, subst}
use Rattle.std.specs.Prelude.{IfSome}
use Rattle.std.specs.Option.{option_map}
use Rattle.rrc_history.specs.Asked.{AskOf}
use Rattle.rrc_history.specs.Judged.{answering}
use Rattle.rrc_history.specs.Entries.{found_among}
use Rattle.rrc_history.specs.Views.{ask_in, held_in, reply_in}
use Rattle.rrc_cache.specs.Taken.{HasName, IsAnswered}
use Rattle.rrc_cache.proofs.Answering.{answering-named, moves_by_age}
use Rattle.rrc_cache.proofs.answer.answer.Goals as goal

pub kept_ask-requires : goal.kept_ask-requires
kept_ask-requires c =
    let P : AskOf → Type 0 = λ ask. IfSome (option_map held_in c.judge-lookup.result.entry) (HasName ask.name) in
    subst P c.as_ref.ensures
    (answering-named c.args.store.now.entries (ask_in c.as_ref.result) (reply_in c.judge-lookup.result.reply) (option_map held_in c.judge-lookup.result.entry) c.judge-lookup.ensures.answering)

pub returns-clause-answered : goal.returns-clause-answered
returns-clause-answered c =
    let asked : AskOf = ask_in c.as_ref.result in
    let P : AskOf → Type 0 = λ ask. IsAnswered c.args.stale ask c.args.store.now.entries c.in_ok-to_owned.field-0 c.slot_to_move.result in
    let reply : c.in_ok-to_owned.field-0 ≡ reply_in c.judge-lookup.result.reply = c.in_ok-to_owned.ensures in
    let gave : option_map held_in c.judge-lookup.result.entry ≡ answering (found_among c.args.store.now.entries asked) asked c.in_ok-to_owned.field-0 =
    rw reply (c.judge-lookup.ensures.answering) in
    subst P c.as_ref.ensures
    record {
      answered = reply ∙ c.judge-lookup.ensures.reply;
      moves =
          moves_by_age asked c.args.store.now.entries c.in_ok-to_owned.field-0 c.judge-lookup.result.entry c.slot_to_move.result c.judge-lookup.result.age gave
          c.judge-lookup.ensures.ahead c.has_distinct_keys.ensures c.slot_to_move.ensures.in_front c.slot_to_move.ensures.behind;
    }
