-- SPDX-License-Identifier: MIT
use Rattle.std.proofs.Common.{◌≡◌, subst}
use Rattle.rrc_history.specs.Past.{reply_to}
use Rattle.rrc_cache.specs.Lean.{IsPick}
use Rattle.rrc_cache.specs.Part.{PartOf, past_of}
use Rattle.rrc_cache.proofs.LeanKeeping.{answered_by_history}
use Rattle.rrc_cache.proofs.lean.LeanPart.answer.Goals as goal

pub returns-clause-reply : goal.returns-clause-reply
returns-clause-reply c =
    let P : PartOf → Type 0 = λ part. c.in_ok-reply.reply ≡ reply_to part.snapshot (past_of part) c.args.ask.now in
    subst P c.self.view_is
    ((answered_by_history c.self.inside.history.part c.self.inside.rules c.self.inside.store.entries c.args.ask.now c.in_ok-reply.reply c.in_ok-reply.slot
    c.self.invariant.ruled c.self.invariant.leaves.contents c.in_ok-reply.ensures.answered).0)

pub returns-clause-pick : goal.returns-clause-pick
returns-clause-pick c =
    let P : PartOf → Type 0 = λ part. IsPick part c.args.ask.now c.in_ok-reply.slot in
    subst P c.self.view_is
    ((answered_by_history c.self.inside.history.part c.self.inside.rules c.self.inside.store.entries c.args.ask.now c.in_ok-reply.reply c.in_ok-reply.slot
    c.self.invariant.ruled c.self.invariant.leaves.contents c.in_ok-reply.ensures.answered).1)
