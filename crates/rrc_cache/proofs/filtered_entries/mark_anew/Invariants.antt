-- SPDX-License-Identifier: MIT
-- the names of the entries so far are marked
use Rattle.std.proofs.Common.{map}
use Rattle.std.specs.Map.Iter.{deref_pair}
use Rattle.rrc_cache.specs.NegativeFilter.{AreMarked, filter_of}
use Rattle.rrc_cache.specs.Keyed.{hashed_entries}
use Rattle.rrc_cache.proofs.filtered_entries.mark_anew.Given as goal

abbrev pub invariant-loop-stamped : goal.invariant-loop-stamped
invariant-loop-stamped l = AreMarked (filter_of l.seeded l.filter) (hashed_entries (map deref_pair l.yielded))
