-- SPDX-License-Identifier: MIT
-- the shares of the workers so far
use Rattle.std.proofs.Common.{◌≡◌, map, take}
use Rattle.rrc_report.specs.Reports.{lines_done}
use Rattle.rrc_report.proofs.checked_report.shares_of.Given as goal

abbrev pub invariant-loop-one : goal.invariant-loop-one
invariant-loop-one l = l.shares.items ≡ map lines_done (take l.one-index l.done)
