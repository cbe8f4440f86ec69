-- SPDX-License-Identifier: MIT
-- the first so many octets went out, one at least in each turn
use Rattle.std.proofs.Common.{take, ◌≤◌, length}
use Rattle.std.specs.Io.KnownBytes.{Appends}
use Rattle.rrc_text.proofs.write.writer.write_out.Given as goal

abbrev pub invariant-loop : goal.invariant-loop
invariant-loop g l =
    (l.counter ≤ l.written) × (l.written ≤ length l.octets)
    × Appends (g.W.Write.contents l.initial.writer) (g.W.Write.contents l.writer) (take l.written l.octets)
