-- SPDX-License-Identifier: MIT
use Rattle.std.proofs.Common.{◌≡◌, ◌∷◌, None, true, ap, sym, subst, ◌∙◌}
use Rattle.rrc_history.specs.declared.snapshot.Entry.{Entry}
use Rattle.rrc_history.specs.Entries.{goes, staying}
use Rattle.rrc_cache.specs.declared.seeded.Seeded.{Seeded}
use Rattle.rrc_cache.specs.Keyed.{name_hash}
use Rattle.rrc_cache.specs.NegativeFilter.{AreMarked, filter_of, is_marked}
use Rattle.rrc_cache.specs.Pairs.{EntriesOf}
use Rattle.rrc_cache.proofs.Marked.{put_marked, still_marked}
use Rattle.rrc_cache.proofs.filtered_entries.FilteredEntries.put.Goals as goal

pub invariant_of-self-2 : goal.invariant_of-self-2
invariant_of-self-2 c =
    let entry : Entry = c.args.entry in
    let seeded : Seeded = c.self.inside.chapter.seeded in
    let its : c.args.hash ≡ name_hash seeded entry.key.name = c.requires ∙ ap (λ (map : EntriesOf). name_hash map.seeded c.args.entry.key.name) (sym c.self.view_is) in
    let after : c.map.result.now ≡ record { seeded = seeded; entries = entry ∷ staying (goes entry.key None) c.self.inside.chapter.entries } = c.map.ensures ∙ c.in_ok-old.ensures.ok in
    subst (λ (map : EntriesOf). AreMarked (filter_of map.seeded c.renew_worn.new.filter) map.entries) c.map.ensures
    (c.renew_worn.ensures (subst (λ (map : EntriesOf). AreMarked (filter_of map.seeded c.note.new.self) map.entries) (sym after)
    (put_marked (filter_of seeded c.self.inside.filter) (filter_of seeded c.note.new.self) entry c.self.inside.chapter.entries
    (λ at. subst (λ hash. is_marked c.note.new.self hash ≡ true) its (c.note.ensures.own at)) (λ name. c.note.ensures.others (name_hash seeded name)) c.self.invariant)))

pub invariant_of-self : goal.invariant_of-self
invariant_of-self c =
    let seeded : Seeded = c.self.inside.chapter.seeded in
    subst (λ (map : EntriesOf). AreMarked (filter_of map.seeded c.note.new.self) map.entries) (sym c.in_err-old.ensures.err)
    (still_marked (filter_of seeded c.self.inside.filter) (filter_of seeded c.note.new.self) (λ name. c.note.ensures.others (name_hash seeded name)) c.self.inside.chapter.entries c.self.invariant)
