-- SPDX-License-Identifier: MIT
-- no event so far took anything from the key
use Rattle.std.proofs.Common.{◌≡◌, length}
use Rattle.rrc_page.specs.Fitting.{Fit}
use Rattle.rrc_page.specs.Spans.{ending_in}
use Rattle.rrc_page.proofs.spans.ending_in.Given as goal

abbrev pub invariant-loop-event : goal.invariant-loop-event
invariant-loop-event l = Fit l.number l.rest × (ending_in l.key l.number l.rest ≡ ending_in l.key l.fn.number l.events)

abbrev pub decreases-loop-event : goal.decreases-loop-event
decreases-loop-event l = length l.rest
