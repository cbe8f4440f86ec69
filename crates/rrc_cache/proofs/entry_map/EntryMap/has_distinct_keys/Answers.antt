-- SPDX-License-Identifier: MIT
use Rattle.std.proofs.Common.{subst}
use Rattle.rrc_history.specs.Entries.{AreApart}
use Rattle.rrc_cache.specs.Pairs.{EntriesOf}
use Rattle.rrc_cache.proofs.Paired.{apart_in}
use Rattle.rrc_cache.proofs.entry_map.EntryMap.has_distinct_keys.Goals as goal

pub returns : goal.returns
returns c =
    let P : EntriesOf → Type 0 = λ map. AreApart map.entries in
    subst P c.self.view_is (apart_in c.self.inside.holdings.map.entries c.self.invariant.own c.has_distinct_keys.ensures)
