-- SPDX-License-Identifier: MIT
use Rattle.std.proofs.Common.{List, refl, ap, sym, subst}
use Rattle.rrc_name.specs.Key.{KeyOf}
use Rattle.rrc_name.specs.KeyRef.{key_of}
use Rattle.rrc_history.specs.declared.snapshot.Entry.{Entry}
use Rattle.rrc_history.specs.Past.{entry_at}
use Rattle.rrc_cache.specs.OpeningTail.{EndsWithTail, HasGivenWay}
use Rattle.rrc_cache.specs.Pairs.{EntriesOf}
use Rattle.rrc_cache.proofs.Tails.{promoted_way}
use Rattle.rrc_cache.proofs.chapter_entries.ChapterEntries.promote.Goals as goal

pub invariant_of-self : goal.invariant_of-self
invariant_of-self c =
    let key : KeyOf = key_of c.args.key in
    let entries : List Entry = c.self.inside.map.entries in
    subst (EndsWithTail c.note_gone.new.tail) (sym (ap (λ (map : EntriesOf). map.entries) c.promote-moved.ensures.entries))
    (promoted_way key entries (entry_at key entries) c.self.inside.tail c.note_gone.new.tail c.has_distinct_keys.ensures refl
    (subst (λ number. HasGivenWay number c.self.inside.tail c.note_gone.new.tail) c.promote-moved.ensures.number c.note_gone.ensures) c.self.invariant)
