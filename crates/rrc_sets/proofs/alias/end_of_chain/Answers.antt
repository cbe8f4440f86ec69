-- SPDX-License-Identifier: MIT
use Rattle.std.proofs.Common.{sym, ◌∙◌, arith}
use Rattle.rrc_sets.proofs.Chains.{end_of_chain-None, end_of_chain-Some, end_of_chain-past}
use Rattle.rrc_sets.proofs.alias.end_of_chain.Goals as goal

pub returns-in-None-clause-value : goal.returns-in-None-clause-value
returns-in-None-clause-value c =
    sym (end_of_chain-None c.args.answer.now c.loop-name._name c.loop-name.name.now (omega arith) (sym c.in-None.ensures.value)) ∙ c.loop-name.invariant.chain

pub loop-name-preserved : goal.loop-name-preserved
loop-name-preserved c =
    record {
      chain =
          sym (end_of_chain-Some c.args.answer.now c.loop-name._name c.loop-name.name.now (omega arith) c.in-Some.target.now (sym c.in-Some.ensures.value)) ∙ c.loop-name.invariant.chain;
      name = c.in-Some.ensures.name;
    }

pub returns-clause-value : goal.returns-clause-value
returns-clause-value c =
    sym (end_of_chain-past c.args.answer.now c.loop-name._name c.loop-name.name.now (omega arith)) ∙ c.loop-name.invariant.chain
