-- SPDX-License-Identifier: MIT
-- the chain goes on with the name
use Rattle.std.proofs.Common.{◌≡◌, ◌-◌}
use Rattle.rrc_name.specs.Wire.{IsWireForm}
use Rattle.rrc_sets.specs.Aliases.{end_of_chain}
use Rattle.rrc_sets.proofs.alias.end_of_chain.Given as goal

abbrev pub invariant-loop-name : goal.invariant-loop-name
invariant-loop-name l = record {
  chain : end_of_chain (17 - l._name) l.answer l.name ≡ end_of_chain 17 l.answer l.fn.name;
  name : IsWireForm l.name;
}
