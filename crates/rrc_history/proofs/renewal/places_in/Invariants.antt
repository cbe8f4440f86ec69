-- SPDX-License-Identifier: MIT
use Rattle.std.proofs.Common.{◌≡◌, take, [], slice_index_or}
use Rattle.rrc_history.specs.EntryLists.{entries_at, AreFilled}
use Rattle.rrc_history.proofs.renewal.places_in.Given as goal

abbrev pub invariant-loop-place : goal.invariant-loop-place
invariant-loop-place l = (entries_at l.batches l.places.items ≡ take l.place (slice_index_or l.batches l.batch [])) × AreFilled l.batches l.places.items
