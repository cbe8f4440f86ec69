-- SPDX-License-Identifier: MIT
use Rattle.std.proofs.Common.{◌≡◌, map, take}
use Rattle.rrc_history.specs.Images.{image_of_entry}
use Rattle.rrc_history.proofs.images.entries_of.Given as goal

abbrev pub invariant-loop-entry : goal.invariant-loop-entry
invariant-loop-entry l = l.made.items ≡ map image_of_entry (take l.entry-index l.entries)
