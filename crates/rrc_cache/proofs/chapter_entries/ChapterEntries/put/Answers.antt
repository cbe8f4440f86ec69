-- SPDX-License-Identifier: MIT
use Rattle.std.proofs.Common.{ap, sym, subst}
use Rattle.std.specs.Option.{option_map}
use Rattle.rrc_history.specs.declared.snapshot.Entry.{Entry}
use Rattle.rrc_cache.specs.OpeningTail.{EndsWithTail, IsPut}
use Rattle.rrc_cache.specs.Pairs.{EntriesOf}
use Rattle.rrc_cache.proofs.Tails.{put_tail}
use Rattle.rrc_cache.proofs.chapter_entries.ChapterEntries.put.Goals as goal

pub invariant_of-self-2 : goal.invariant_of-self-2
invariant_of-self-2 c =
    let entry : Entry = c.args.entry in
    let put : IsPut (option_map (λ e. e.number) c.in_ok-old.old) entry.number c.self.inside.tail c.note_put.new.tail =
    subst (λ number. IsPut number entry.number c.self.inside.tail c.note_put.new.tail) c.number_of.ensures c.note_put.ensures in
    subst (EndsWithTail c.note_put.new.tail) (sym (ap (λ (map : EntriesOf). map.entries) c.in_ok-old.ensures.ok))
    (put_tail entry c.self.inside.map.entries c.in_ok-old.old c.self.inside.tail c.note_put.new.tail c.has_distinct_keys.ensures (sym c.in_ok-old.ensures.old) put c.self.invariant)
