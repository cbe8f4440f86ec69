-- SPDX-License-Identifier: MIT
-- the fault is that of the entries behind those that were passed; and the trees have these
use Rattle.std.proofs.Common.{◌≡◌, [], take, drop}
use Rattle.rrc_history.specs.Repeats.{Finds}
use Rattle.rrc_history.specs.Snapshots.{fault_behind}
use Rattle.rrc_history.proofs.snapshot.first_fault_by_trees.Given as goal

abbrev pub invariant-loop-place : goal.invariant-loop-place
invariant-loop-place l =
    (fault_behind l.rules.capacity l.first (take l.place l.entries) (drop l.place l.entries) ≡ fault_behind l.rules.capacity l.first [] l.entries)
    × Finds l.trees (take l.place l.entries)
