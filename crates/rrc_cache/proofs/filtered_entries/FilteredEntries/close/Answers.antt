-- SPDX-License-Identifier: MIT
use Rattle.std.proofs.Common.{sym, subst}
use Rattle.rrc_cache.specs.NegativeFilter.{AreMarked, filter_of}
use Rattle.rrc_cache.specs.Pairs.{EntriesOf}
use Rattle.rrc_cache.proofs.filtered_entries.FilteredEntries.close.Goals as goal

pub invariant_of-self : goal.invariant_of-self
invariant_of-self c = subst (λ (map : EntriesOf). AreMarked (filter_of map.seeded c.self.inside.filter) map.entries) (sym c.close.ensures.same) c.self.invariant
