-- SPDX-License-Identifier: MIT
-- what is left to read says, behind the lines so far, what the whole trace says
use Rattle.rrc_trace.proofs.PieceLemmas.{IsReadSoFar}
use Rattle.std.specs.Io.KnownBytes.{prepend_known}
use Rattle.rrc_trace.proofs.read.trace.Reading.read_lines.Given as goal

abbrev pub invariant-loop-number : goal.invariant-loop-number
invariant-loop-number g l = IsReadSoFar (g.R.Read.remaining l.fn.reader) (prepend_known l.self.ahead (g.R.Read.remaining l.reader)) l.self.lines l.number l.self.questions
