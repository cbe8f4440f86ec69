-- SPDX-License-Identifier: MIT
use Rattle.std.proofs.Common.{◌≡◌, ◌++◌, ◌∷◌, [], List, map, sym, ap, subst, ◌∙◌}
use Rattle.std.specs.Map.Iter.{deref_pair}
use Rattle.std.proofs.lemmas.List.{map-append}
use Rattle.rrc_history.specs.declared.snapshot.Entry.{Entry}
use Rattle.rrc_cache.specs.declared.seeded.Seeded.{Seeded}
use Rattle.rrc_cache.specs.NegativeFilter.{AreMarked, filter_of}
use Rattle.rrc_cache.specs.declared.clocked.Stamped.{Stamped}
use Rattle.rrc_cache.specs.declared.hashed.HashedKey.{HashedKey}
use Rattle.rrc_cache.specs.Keyed.{hashed_entries, name_hash}
use Rattle.rrc_cache.proofs.Marked.{more_marked}
use Rattle.rrc_cache.proofs.filtered_entries.mark_anew.Goals as goal

pub loop-stamped-preserved : goal.loop-stamped-preserved
loop-stamped-preserved c =
    let before : List Entry = hashed_entries (map deref_pair c.loop-stamped.yielded) in
    let more : hashed_entries (map deref_pair (c.loop-stamped.yielded ++ (c.in-Some.field-0-0, c.in-Some.stamped) ∷ [])) ≡ before ++ c.in-Some.stamped.now.entry ∷ [] =
    ap hashed_entries (map-append deref_pair c.loop-stamped.yielded ((c.in-Some.field-0-0, c.in-Some.stamped) ∷ []))
    ∙ map-append (λ (pair : HashedKey × Stamped). pair.1.entry) (map deref_pair c.loop-stamped.yielded) ((c.in-Some.field-0-0.now, c.in-Some.stamped.now) ∷ []) in
    let seeded : Seeded = c.args.seeded in
    subst (AreMarked (filter_of seeded c.note_entry.new.filter)) (sym more)
    (more_marked (filter_of seeded c.loop-stamped.filter) (filter_of seeded c.note_entry.new.filter) before c.in-Some.stamped.now.entry c.note_entry.ensures.own
    (λ name. c.note_entry.ensures.others (name_hash seeded name)) c.loop-stamped.invariant)
