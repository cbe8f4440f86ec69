-- SPDX-License-Identifier: MIT
use Rattle.std.proofs.Common.{◌≡◌, drop}
use Rattle.std.specs.Prelude.{reverse}
use Rattle.std.specs.List.{list_any}
use Rattle.rrc_history.specs.Auditing.{is_left_out, is_offered}
use Rattle.rrc_history.proofs.audits.is_left_out_offered.Given as goal

abbrev pub invariant-loop-event : goal.invariant-loop-event
invariant-loop-event l =
    list_any (is_offered (is_left_out l.snapshot (reverse l.past) l.moment l.gone)) (drop l.event-index l.past) ≡ list_any (is_offered (is_left_out l.snapshot (reverse l.past) l.moment l.gone)) l.past
