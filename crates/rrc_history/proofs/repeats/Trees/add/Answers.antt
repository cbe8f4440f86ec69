-- SPDX-License-Identifier: MIT
use Rattle.rrc_history.proofs.Repeating.{keys-more, numbers-more}
use Rattle.rrc_history.proofs.repeats.Trees.add.Goals as goal

pub returns-clause-finds : goal.returns-clause-finds
returns-clause-finds c = record {
  keys = keys-more c.args.before.now c.args.entry.now c.args.self.now.keys c.insert.new.self c.in_ok-clone.field-0 c.in_ok-clone.ensures.cases c.requires.keys c.in_ok-is_new_key.ensures.updates.0;
  numbers = numbers-more c.args.before.now c.args.entry.now c.args.self.now.numbers c.insert-2.new.self c.requires.numbers c.in_ok-is_new_number.ensures.updates.0;
}
