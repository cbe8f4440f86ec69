-- SPDX-License-Identifier: MIT
-- what was told so far
use Rattle.std.proofs.Common.{◌≡◌, take, map, Some}
use Rattle.rrc_report.specs.Completions.{all_told_by}
use Rattle.rrc_report.proofs.completions.all_told_by.Given as goal

abbrev pub invariant-loop-place : goal.invariant-loop-place
invariant-loop-place l = all_told_by (take l.place l.told) (take l.place (map (λ event. event.now) l.events)) ≡ Some l.all.items
