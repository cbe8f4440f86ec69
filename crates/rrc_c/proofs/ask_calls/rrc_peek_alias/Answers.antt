-- SPDX-License-Identifier: MIT
use Rattle.std.proofs.Common.{length, Some, ap, ◌∙◌}
use Rattle.rrc_share.specs.CacheShelf.{CacheShelfOf}
use Rattle.rrc_shelf.specs.Asks.{ask_or_alias, asked}
use Rattle.rrc_shelf.specs.Refusals.{PeekDue}
use Rattle.rrc_shelf.specs.Checks.{number_of_reply}
use Rattle.rrc_c.proofs.Holding.{told_of_held}
use Rattle.rrc_c.proofs.ask_calls.rrc_peek_alias.Goals as goal

pub returns-clause-due : goal.returns-clause-due
returns-clause-due c =
    told_of_held c.args.look.now.look.sight.shelf c.get.result.now c.number_of_reply.result (number_of_reply c.peek_at_alias-fits.result)
    (λ (shelf : CacheShelfOf). PeekDue c.args.name.now c.args.question.now c.args.look.now.seed (ask_or_alias shelf (asked c.args.name.now c.args.question.now)) (length c.args.buffer.now) shelf) (ap (λ (shelf : CacheShelfOf). Some shelf) c.get.ensures ∙ c.in-Some.ensures.taken)
    c.number_of_reply.ensures.value c.peek_at_alias-fits.ensures.due
