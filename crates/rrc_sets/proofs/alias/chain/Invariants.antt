-- SPDX-License-Identifier: MIT
-- the names so far, and the chain that begins with the name after them
use Rattle.std.proofs.Common.{◌≡◌, ◌-◌, ◌++◌}
use Rattle.rrc_sets.specs.Aliases.{chain}
use Rattle.rrc_sets.proofs.alias.chain.Given as goal

abbrev pub invariant-loop-alias : goal.invariant-loop-alias
invariant-loop-alias l = l.names.items ++ chain (l.aliases - l._alias) l.answer l.name ≡ chain l.aliases l.answer l.initial.name
