-- SPDX-License-Identifier: MIT
-- what some entries say was put, and what the others say is left
use Rattle.std.proofs.Common.{◌≡◌, ◌++◌, drop}
use Rattle.std.specs.List.{flat_map}
use Rattle.rrc_replay.specs.Audited.{held_line}
use Rattle.rrc_replay.proofs.audited.put_held.Given as goal

abbrev pub invariant-loop-entry : goal.invariant-loop-entry
invariant-loop-entry l = l.text.items ++ flat_map held_line (drop l.entry-index l.entries) ≡ l.initial.text.items ++ flat_map held_line l.entries
