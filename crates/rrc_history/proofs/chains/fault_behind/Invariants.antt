-- SPDX-License-Identifier: MIT
use Rattle.std.proofs.Common.{◌≡◌, ◌+◌, drop}
use Rattle.rrc_history.specs.Chains.{fault_from}
use Rattle.rrc_history.proofs.chains.fault_behind.Given as goal

abbrev pub invariant-loop-passed : goal.invariant-loop-passed
invariant-loop-passed l = fault_from (l.passed + 1) l.before (drop l.passed l.behind) ≡ fault_from 1 l.first l.behind
