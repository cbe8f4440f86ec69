-- SPDX-License-Identifier: MIT
use Rattle.std.proofs.Common.{◌≡◌, [], take, drop}
use Rattle.rrc_history.specs.classless.Snapshots.{fault_behind}
use Rattle.rrc_history.proofs.classless.first_fault.Given as goal

abbrev pub invariant-loop-place : goal.invariant-loop-place
invariant-loop-place l =
    fault_behind l.rules.capacity l.first (take l.place l.entries) (drop l.place l.entries) ≡ fault_behind l.rules.capacity l.first [] l.entries
