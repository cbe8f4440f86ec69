-- SPDX-License-Identifier: MIT
-- there are as many parts as before, and the parts so far were swept
use Rattle.std.proofs.Common.{◌≡◌}
use Rattle.rrc_report.specs.Called.{AreSwept}
use Rattle.rrc_report.proofs.answers.sweep.Given as goal

abbrev pub invariant-loop-part : goal.invariant-loop-part
invariant-loop-part g l = (g.C.Calls.count l.cache ≡ l.parts) × AreSwept g.C.Calls.makes l.line l.moment 0 l.part l.fn.cache l.cache l.counts
