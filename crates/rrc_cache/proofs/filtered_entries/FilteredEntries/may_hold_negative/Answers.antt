-- SPDX-License-Identifier: MIT
use Rattle.std.proofs.Common.{◌≡◌, None, ap, sym, subst, ◌∙◌}
use Rattle.rrc_history.specs.Past.{entry_at}
use Rattle.rrc_cache.specs.NegativeFilter.{filter_of, is_marked}
use Rattle.rrc_cache.specs.Keyed.{name_hash}
use Rattle.rrc_cache.specs.Pairs.{EntriesOf}
use Rattle.rrc_cache.proofs.Marked.{none_negative}
use Rattle.rrc_cache.proofs.filtered_entries.FilteredEntries.may_hold_negative.Goals as goal

pub returns : goal.returns
returns c = λ unmarked key own at.
    let seeded = c.self.inside.chapter.seeded in
    let marks = c.self.inside.filter in
    let its : c.args.hash ≡ name_hash seeded key.name = own ∙ ap (λ (map : EntriesOf). name_hash map.seeded key.name) (sym c.self.view_is) in
    subst (λ (map : EntriesOf). entry_at key map.entries ≡ None) c.self.view_is
    (none_negative (filter_of seeded marks) c.self.inside.chapter.entries key c.self.invariant
    (ap (is_marked marks) (sym its) ∙ (sym c.may_hold.ensures ∙ unmarked)) at)
