-- SPDX-License-Identifier: MIT
-- there are as many parts as before, and the chapters of the parts so far were closed
use Rattle.std.proofs.Common.{◌≡◌}
use Rattle.rrc_report.specs.Called.{AreClosed}
use Rattle.rrc_report.proofs.answers.close.Given as goal

abbrev pub invariant-loop-part : goal.invariant-loop-part
invariant-loop-part g l = (g.C.Calls.count l.cache ≡ l.parts) × AreClosed g.C.Calls.makes l.part l.fn.cache l.cache
