-- SPDX-License-Identifier: MIT
-- so far each event tells its count
use Rattle.std.proofs.Common.{◌≡◌, take, map, true}
use Rattle.rrc_report.specs.Completions.{all_count}
use Rattle.rrc_report.proofs.completions.all_count.Given as goal

abbrev pub invariant-loop-place : goal.invariant-loop-place
invariant-loop-place l = all_count (take l.place l.removed) (take l.place (map (λ event. event.now) l.events)) ≡ true
