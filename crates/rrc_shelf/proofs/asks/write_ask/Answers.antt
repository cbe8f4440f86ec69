-- SPDX-License-Identifier: MIT
use Rattle.rrc_shelf.proofs.Answering.{answers_what_it_had}
use Rattle.rrc_shelf.proofs.asks.write_ask.Goals as goal

pub returns-clause-ok : goal.returns-clause-ok
returns-clause-ok c =
    answers_what_it_had c.args.shelf.now c.ask.new.self (record { line = c.args.line; place = 0 }) c.args.ask.now c.in_ok-ask.field-0 c.in_ok-ask.ensures.records c.in_ok-ask.ensures.ok
