-- SPDX-License-Identifier: MIT
use Rattle.std.proofs.Common.{◌≡◌, drop}
use Rattle.std.specs.Cmp.Lexicographic.{pointwise}
use Rattle.rrc_history.specs.Equality.{entry_eq}
use Rattle.rrc_history.proofs.entry_list.are_same.Given as goal

abbrev pub invariant-loop-place : goal.invariant-loop-place
invariant-loop-place l = pointwise entry_eq (drop l.place l.list) (drop l.place l.other) ≡ pointwise entry_eq l.list l.other
