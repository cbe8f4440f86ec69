-- SPDX-License-Identifier: MIT
use Rattle.std.proofs.Common.{◌≡◌, map, take}
use Rattle.rrc_history.specs.Images.{entry_without_class}
use Rattle.rrc_history.proofs.images.entries_without_class.Given as goal

abbrev pub invariant-loop-place : goal.invariant-loop-place
invariant-loop-place l = l.made.items ≡ map entry_without_class (take l.place l.entries)
