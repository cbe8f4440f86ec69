-- SPDX-License-Identifier: MIT
use Rattle.std.proofs.Common.{◌≡◌, drop}
use Rattle.rrc_history.specs.Auditing.{are_ordered}
use Rattle.rrc_history.proofs.audits.are_ordered.Given as goal

abbrev pub invariant-loop-passed : goal.invariant-loop-passed
invariant-loop-passed l = are_ordered l.before (drop l.passed l.behind) ≡ are_ordered l.first l.behind
