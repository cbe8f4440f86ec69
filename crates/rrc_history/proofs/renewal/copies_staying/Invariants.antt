-- SPDX-License-Identifier: MIT
use Rattle.std.proofs.Common.{◌≡◌, take}
use Rattle.rrc_history.specs.EntryLists.{without}
use Rattle.rrc_history.proofs.renewal.copies_staying.Given as goal

abbrev pub invariant-loop-place : goal.invariant-loop-place
invariant-loop-place l = l.entries.items ≡ without l.gone.keys (take l.place l.list)
