-- SPDX-License-Identifier: MIT
use Rattle.std.proofs.Common.{◌≡◌, List, Some, refl, ap, sym, subst, ◌∙◌}
use Rattle.std.specs.Option.{option_map}
use Rattle.rrc_history.specs.declared.snapshot.Entry.{Entry}
use Rattle.rrc_history.specs.Past.{entry_at, entry_of}
use Rattle.rrc_cache.specs.OpeningTail.{EndsWithTail, IsPut}
use Rattle.rrc_cache.specs.Pairs.{EntriesOf}
use Rattle.rrc_cache.proofs.Tails.{put_tail}
use Rattle.rrc_cache.proofs.chapter_entries.ChapterEntries.overwrite.Goals as goal

pub invariant_of-self-2 : goal.invariant_of-self-2
invariant_of-self-2 c =
    let entry : Entry = entry_of c.args.offer.now c.args.number in
    let entries : List Entry = c.self.inside.map.entries in
    let numbered : option_map (λ e. e.number) (entry_at entry.key entries) ≡ Some c.args.replaced.number =
    ap (λ (map : EntriesOf). option_map (λ (e : Entry). e.number) (entry_at entry.key map.entries)) c.self.view_is ∙ c.requires.number in
    subst (EndsWithTail c.note_put.new.tail) (sym (ap (λ (map : EntriesOf). map.entries) c.in_ok-overwrite.ensures.ok))
    (put_tail entry entries (entry_at entry.key entries) c.self.inside.tail c.note_put.new.tail c.has_distinct_keys.ensures refl
    (subst (λ number. IsPut number entry.number c.self.inside.tail c.note_put.new.tail) (sym numbered) c.note_put.ensures) c.self.invariant)
