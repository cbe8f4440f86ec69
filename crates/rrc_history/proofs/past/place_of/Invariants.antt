-- SPDX-License-Identifier: MIT
use Rattle.std.proofs.Common.{◌≡◌, length}
use Rattle.rrc_history.specs.Past.{place_of}
use Rattle.rrc_history.proofs.past.place_of.Given as goal

abbrev pub invariant-loop-entry : goal.invariant-loop-entry
invariant-loop-entry l = record { left : l.behind ≡ length l.entry-iterator; same : place_of l.key l.entry-iterator ≡ place_of l.key l.entries }
