-- SPDX-License-Identifier: MIT
-- the lines that were done so far
use Rattle.std.proofs.Common.{◌≡◌, map, take}
use Rattle.rrc_report.proofs.checked_report.share_of.Given as goal

abbrev pub invariant-loop-answered : goal.invariant-loop-answered
invariant-loop-answered l = l.share.items ≡ map (λ answered. answered.line) (take l.answered-index l.answers)
