-- SPDX-License-Identifier: MIT
use Rattle.std.proofs.Common.{◌-◌, List, length, sym, subst}
use Rattle.rrc_history.specs.declared.snapshot.Entry.{Entry}
use Rattle.rrc_cache.specs.NegativeFilter.{AreMarked, filter_of}
use Rattle.rrc_cache.specs.Pairs.{EntriesOf}
use Rattle.rrc_cache.proofs.Marked.{taken_marked}
use Rattle.rrc_cache.proofs.filtered_entries.FilteredEntries.remove_last.Goals as goal

pub invariant_of-self : goal.invariant_of-self
invariant_of-self c =
    let entries : List Entry = c.self.inside.chapter.entries in
    subst (λ (map : EntriesOf). AreMarked (filter_of map.seeded c.self.inside.filter) map.entries) (sym c.remove_last.ensures.entries)
    (taken_marked (filter_of c.self.inside.chapter.seeded c.self.inside.filter) (length entries - 1) entries c.self.invariant)
