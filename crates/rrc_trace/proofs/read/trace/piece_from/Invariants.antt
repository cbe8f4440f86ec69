-- SPDX-License-Identifier: MIT
-- octets were read, none of which ends a line
use Rattle.std.proofs.Common.{◌-◌, ◌≤◌, length}
use Rattle.std.specs.Io.KnownBytes.{Consumes, prepend_known}
use Rattle.rrc_text.specs.Cuts.{IsUnended}
use Rattle.rrc_trace.proofs.read.trace.piece_from.Given as goal

abbrev pub invariant-loop-ahead : goal.invariant-loop-ahead
invariant-loop-ahead g l =
    Consumes (prepend_known l.fn.ahead (g.R.Read.remaining l.fn.reader)) (prepend_known l.ahead (g.R.Read.remaining l.reader)) l.piece.items
    × IsUnended l.piece.items × (length l.piece.items ≤ 140001)

abbrev pub decreases-loop-ahead : goal.decreases-loop-ahead
decreases-loop-ahead g l = 140001 - length l.piece.items
