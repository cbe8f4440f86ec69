-- SPDX-License-Identifier: MIT
use Rattle.std.proofs.Common.{subst}
use Rattle.rrc_history.specs.Views.{ask_in}
use Rattle.rrc_cache.specs.Lookups.{TellsLookup}
use Rattle.rrc_cache.specs.Part.{PartOf}
use Rattle.rrc_cache.proofs.LeanKeeping.{lookup_told}
use Rattle.rrc_cache.proofs.lean.LeanPart.lookup.Goals as goal

pub returns-clause-reply : goal.returns-clause-reply
returns-clause-reply c =
    let P : PartOf → Type 0 = λ part. TellsLookup part (ask_in c.args.ask) c.judge.result in
    (subst P c.self.view_is
    (lookup_told c.self.inside.history.part c.self.inside.rules c.self.inside.store.entries (ask_in c.args.ask) c.judge.result c.self.invariant.ruled
    c.self.invariant.leaves.contents c.judge.ensures.reply c.judge.ensures.answering c.judge.ensures.ahead c.judge.ensures.miss)).reply

pub returns-clause-entry : goal.returns-clause-entry
returns-clause-entry c =
    let P : PartOf → Type 0 = λ part. TellsLookup part (ask_in c.args.ask) c.judge.result in
    (subst P c.self.view_is
    (lookup_told c.self.inside.history.part c.self.inside.rules c.self.inside.store.entries (ask_in c.args.ask) c.judge.result c.self.invariant.ruled
    c.self.invariant.leaves.contents c.judge.ensures.reply c.judge.ensures.answering c.judge.ensures.ahead c.judge.ensures.miss)).entry

pub returns-clause-ahead : goal.returns-clause-ahead
returns-clause-ahead c =
    let P : PartOf → Type 0 = λ part. TellsLookup part (ask_in c.args.ask) c.judge.result in
    (subst P c.self.view_is
    (lookup_told c.self.inside.history.part c.self.inside.rules c.self.inside.store.entries (ask_in c.args.ask) c.judge.result c.self.invariant.ruled
    c.self.invariant.leaves.contents c.judge.ensures.reply c.judge.ensures.answering c.judge.ensures.ahead c.judge.ensures.miss)).ahead
