-- SPDX-License-Identifier: MIT
use Rattle.std.proofs.Common.{◌≡◌, drop}
use Rattle.std.specs.Prelude.{reverse}
use Rattle.std.specs.List.{list_any}
use Rattle.rrc_history.specs.Auditing.{is_lower, is_offered}
use Rattle.rrc_history.proofs.audits.is_lower_offered.Given as goal

abbrev pub invariant-loop-event : goal.invariant-loop-event
invariant-loop-event l =
    list_any (is_offered (is_lower l.snapshot (reverse l.past) l.number)) (drop l.event-index l.past) ≡ list_any (is_offered (is_lower l.snapshot (reverse l.past) l.number)) l.past
