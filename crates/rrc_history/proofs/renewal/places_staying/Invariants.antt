-- SPDX-License-Identifier: MIT
use Rattle.std.proofs.Common.{◌≡◌, take}
use Rattle.rrc_history.specs.EntryLists.{places_staying}
use Rattle.rrc_history.proofs.renewal.places_staying.Given as goal

abbrev pub invariant-loop-at : goal.invariant-loop-at
invariant-loop-at l = l.places.items ≡ places_staying l.gone.keys l.batched.batches.items (take l.at l.batched.places.items)
