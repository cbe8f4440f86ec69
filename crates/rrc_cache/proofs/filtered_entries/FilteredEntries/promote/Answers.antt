-- SPDX-License-Identifier: MIT
use Rattle.std.proofs.Common.{sym, subst}
use Rattle.rrc_name.specs.KeyRef.{key_of}
use Rattle.rrc_cache.specs.NegativeFilter.{AreMarked, filter_of}
use Rattle.rrc_cache.specs.Pairs.{EntriesOf}
use Rattle.rrc_cache.proofs.Marked.{promoted_marked}
use Rattle.rrc_cache.proofs.filtered_entries.FilteredEntries.promote.Goals as goal

pub invariant_of-self : goal.invariant_of-self
invariant_of-self c =
    subst (λ (map : EntriesOf). AreMarked (filter_of map.seeded c.self.inside.filter) map.entries) (sym c.promote.ensures)
    (promoted_marked (filter_of c.self.inside.chapter.seeded c.self.inside.filter) (key_of c.args.key) c.self.inside.chapter.entries c.self.invariant)
