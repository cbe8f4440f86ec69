-- SPDX-License-Identifier: MIT
use Rattle.std.proofs.Common.{◌≡◌, List, Some, None, refl, ap, sym, subst, ◌∙◌}
use Rattle.std.specs.Option.{option_map}
use Rattle.rrc_name.specs.Key.{KeyOf}
use Rattle.rrc_history.specs.declared.snapshot.Entry.{Entry}
use Rattle.rrc_history.specs.Past.{entry_at, last_key}
use Rattle.rrc_cache.specs.OpeningTail.{EndsWithTail, HasGivenWay}
use Rattle.rrc_cache.specs.Pairs.{EntriesOf}
use Rattle.rrc_cache.proofs.Last.{last_leaves, none_leaves}
use Rattle.rrc_cache.proofs.Tails.{given_way}
use Rattle.rrc_cache.proofs.chapter_entries.ChapterEntries.remove_last.Goals as goal

pub invariant_of-self-2 : goal.invariant_of-self-2
invariant_of-self-2 c =
    let key : KeyOf = c.in_ok-key.key in
    let entries : List Entry = c.self.inside.map.entries in
    let last : last_key entries ≡ Some key = sym c.remove_last.ensures.key ∙ ap (option_map (λ gone. gone.0)) c.in_ok-key.was in
    subst (EndsWithTail c.note_move.new.tail) (last_leaves key entries c.has_distinct_keys.ensures last ∙ sym (ap (λ (map : EntriesOf). map.entries) c.remove_last.ensures.entries))
    (given_way key entries (entry_at key entries) c.self.inside.tail c.note_move.new.tail c.has_distinct_keys.ensures refl
    (subst (λ number. HasGivenWay number c.self.inside.tail c.note_move.new.tail) (sym c.in_ok-key.ensures.number) c.note_move.ensures) c.self.invariant)

pub invariant_of-self : goal.invariant_of-self
invariant_of-self c =
    let entries : List Entry = c.self.inside.map.entries in
    let none : last_key entries ≡ None = sym c.remove_last.ensures.key ∙ ap (option_map (λ gone. gone.0)) c.in_err-key.was in
    subst (EndsWithTail c.self.inside.tail) (none_leaves entries none ∙ sym (ap (λ (map : EntriesOf). map.entries) c.remove_last.ensures.entries)) c.self.invariant
