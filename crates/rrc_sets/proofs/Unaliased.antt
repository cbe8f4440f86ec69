-- SPDX-License-Identifier: MIT
-- Where the question's name is no alias, the answer ends with it.
use Rattle.std.proofs.Common.{◌≡◌, Bool, true, false, cond, ◌||◌, ◌==◌, Some, None, refl, sym, arith}
use Rattle.rrc_wire.specs.declared.message.Message.{Message}
use Rattle.rrc_sets.specs.Aliases.{target_of, end_of_chain, final_name}
use Rattle.rrc_sets.proofs.Chains.{end_of_chain-None}

pub unaliased : (message : Message) → target_of message.answer message.question.name ≡ None → Some message.question.name ≡ final_name message
unaliased message none = by (message.question.qtype == 5 || message.question.qtype == 255)
  where
    by : (b : Bool) → Some message.question.name ≡ cond b (Some message.question.name) (end_of_chain 17 message.answer message.question.name)
    by true = refl
    by false = sym (end_of_chain-None message.answer 0 message.question.name (omega arith) none)
