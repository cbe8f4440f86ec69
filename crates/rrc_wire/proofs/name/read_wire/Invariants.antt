-- SPDX-License-Identifier: MIT
use Rattle.std.proofs.Common.{◌≡◌, ◌+◌, ◌-◌, length}
use Rattle.rrc_name.proofs.Spelling.{AreLabels}
use Rattle.rrc_wire.specs.Shown.{as_run}
use Rattle.rrc_wire.proofs.NameLoop.{Goes, StandsIn}
use Rattle.rrc_wire.proofs.name.read_wire.Given as goal

abbrev pub invariant-loop-wire : goal.invariant-loop-wire
invariant-loop-wire l = record {
  unchanged : l.source ≡ l.message;
  labels : AreLabels l.wire;
  stands : StandsIn l.message (as_run l.fn.first) (as_run l.run) l.behind;
  goes : Goes l.message (as_run l.fn.first) (as_run l.run) l.wire l.behind l.place;
}

abbrev pub decreases-loop-wire : goal.decreases-loop-wire
decreases-loop-wire l = l.run.start + 256 - length l.wire
