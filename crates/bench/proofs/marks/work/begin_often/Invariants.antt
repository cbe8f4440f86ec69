-- SPDX-License-Identifier: MIT
use Rattle.std.proofs.Common.{◌≤◌}
use Rattle.rrc_marks.specs.Seen.{KeepsShare}
use Rattle.bench.proofs.marks.work.begin_often.Given as goal

abbrev pub invariant-loop : goal.invariant-loop
invariant-loop l = KeepsShare l.initial.pass l.pass × (l.mine ≤ l.counter)
