-- SPDX-License-Identifier: MIT
use Rattle.std.proofs.Common.{length}
use Rattle.rrc_share.specs.CacheShelf.{CacheShelfOf}
use Rattle.rrc_shelf.specs.Asks.{ask_or_alias, asked}
use Rattle.rrc_shelf.specs.Refusals.{AskDue}
use Rattle.rrc_shelf.specs.Checks.{number_of_reply}
use Rattle.rrc_c.proofs.Holding.{told_of_held}
use Rattle.rrc_c.proofs.ask_calls.rrc_ask_alias.Goals as goal

pub returns-clause-due : goal.returns-clause-due
returns-clause-due c =
    told_of_held c.args.handle.now.held.seal.shelf c.in-Some.shelf.now c.number_of_reply.result (number_of_reply c.ask_shelf_alias-fits.result)
    (λ (shelf : CacheShelfOf). AskDue c.args.name.now c.args.question.now c.args.handle.now.seed (ask_or_alias shelf (asked c.args.name.now c.args.question.now)) (length c.args.buffer.now) shelf) c.in-Some.ensures.value c.number_of_reply.ensures.value
    c.ask_shelf_alias-fits.ensures.due
