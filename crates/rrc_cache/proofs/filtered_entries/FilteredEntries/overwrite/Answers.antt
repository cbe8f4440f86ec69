-- SPDX-License-Identifier: MIT
use Rattle.std.proofs.Common.{ap, sym, subst, ◌∙◌}
use Rattle.std.specs.Option.{option_map}
use Rattle.rrc_history.specs.declared.snapshot.Entry.{Entry}
use Rattle.rrc_history.specs.Past.{entry_at, entry_of}
use Rattle.rrc_cache.specs.NegativeFilter.{AreMarked, NegativeFilterOf, filter_of}
use Rattle.rrc_cache.specs.Pairs.{EntriesOf}
use Rattle.rrc_cache.proofs.Marked.{replaced_marked}
use Rattle.rrc_cache.proofs.filtered_entries.FilteredEntries.overwrite.Goals as goal

pub invariant_of-self-2 : goal.invariant_of-self-2
invariant_of-self-2 c =
    let entry : Entry = entry_of c.args.offer.now c.args.number in
    let filter : NegativeFilterOf = filter_of c.self.inside.chapter.seeded c.self.inside.filter in
    subst (λ (map : EntriesOf). AreMarked (filter_of map.seeded c.self.inside.filter) map.entries) (sym c.in_ok-overwrite.ensures.ok)
    (replaced_marked filter entry c.self.inside.chapter.entries c.args.replaced.number
    (ap (λ (map : EntriesOf). option_map (λ (e : Entry). e.number) (entry_at entry.key map.entries)) c.self.view_is ∙ c.requires.number) c.self.invariant)
