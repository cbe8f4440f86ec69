-- SPDX-License-Identifier: MIT
-- the chain goes on with the name
use Rattle.std.proofs.Common.{◌≡◌, ◌-◌}
use Rattle.rrc_sets.specs.Kinds.{end_within}
use Rattle.rrc_sets.proofs.kind.end_within.Given as goal

abbrev pub invariant-loop-name : goal.invariant-loop-name
invariant-loop-name l = end_within l.zone (17 - l._name) l.answer l.name ≡ end_within l.zone 17 l.answer l.initial.name
