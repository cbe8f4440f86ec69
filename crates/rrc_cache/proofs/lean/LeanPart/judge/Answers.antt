-- SPDX-License-Identifier: MIT
use Rattle.std.proofs.Common.{subst}
use Rattle.rrc_history.specs.Views.{ask_in, reply_in}
use Rattle.rrc_cache.specs.Lean.{IsPick}
use Rattle.rrc_cache.specs.Lookups.{TellsLookup}
use Rattle.rrc_cache.specs.Part.{PartOf}
use Rattle.rrc_cache.specs.Taken.{IsAnswered}
use Rattle.rrc_cache.proofs.Answering.{moves_by_age}
use Rattle.rrc_cache.proofs.LeanKeeping.{answered_by_history, lookup_told}
use Rattle.rrc_cache.proofs.lean.LeanPart.judge.Goals as goal

pub returns-clause-reply : goal.returns-clause-reply
returns-clause-reply c =
    let P : PartOf → Type 0 = λ part. TellsLookup part (ask_in c.args.ask) c.judge-lookup.result in
    subst P c.self.view_is
    (lookup_told c.self.inside.history.part c.self.inside.rules c.self.inside.store.entries (ask_in c.args.ask) c.judge-lookup.result c.self.invariant.ruled
    c.self.invariant.leaves.contents c.judge-lookup.ensures.reply c.judge-lookup.ensures.answering c.judge-lookup.ensures.ahead c.judge-lookup.ensures.miss)

pub returns-clause-pick : goal.returns-clause-pick
returns-clause-pick c =
    let P : PartOf → Type 0 = λ part. IsPick part (ask_in c.args.ask) c.slot_to_move-slot.result in
    let taken : IsAnswered c.self.inside.rules.stale (ask_in c.args.ask) c.self.inside.store.entries (reply_in c.judge-lookup.result.reply) c.slot_to_move-slot.result = record {
      answered = c.judge-lookup.ensures.reply;
      moves =
          moves_by_age (ask_in c.args.ask) c.self.inside.store.entries (reply_in c.judge-lookup.result.reply) c.judge-lookup.result.entry c.slot_to_move-slot.result
          c.judge-lookup.result.age c.judge-lookup.ensures.answering c.judge-lookup.ensures.ahead c.self.invariant.leaves.kept.apart c.slot_to_move-slot.ensures.in_front
          c.slot_to_move-slot.ensures.behind;
    } in
    subst P c.self.view_is
    ((answered_by_history c.self.inside.history.part c.self.inside.rules c.self.inside.store.entries (ask_in c.args.ask) (reply_in c.judge-lookup.result.reply) c.slot_to_move-slot.result
    c.self.invariant.ruled c.self.invariant.leaves.contents taken).1)
