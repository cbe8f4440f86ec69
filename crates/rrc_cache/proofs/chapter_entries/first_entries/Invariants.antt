-- SPDX-License-Identifier: MIT
-- what came stands in front of what is to come, and is no more than is wanted
use Rattle.std.proofs.Common.{◌≡◌, ◌≤◌, ◌++◌, length}
use Rattle.rrc_cache.specs.Keyed.{hashed_entries}
use Rattle.rrc_cache.proofs.chapter_entries.first_entries.Given as goal

abbrev pub invariant-loop-stamped : goal.invariant-loop-stamped
invariant-loop-stamped l = (hashed_entries l.cache.entries ≡ l.first.items ++ hashed_entries l.stamped-iterator) × (length l.first.items ≤ l.count)
