-- SPDX-License-Identifier: MIT
use Rattle.std.proofs.Common.{◌≡◌, ap, sym, subst, ◌∙◌}
use Rattle.rrc_history.specs.declared.snapshot.Snapshot.{Snapshot}
use Rattle.rrc_history.specs.Sound.{AreSound}
use Rattle.rrc_history.specs.lemmas.SnapshotLaws.{sound_exactly}
use Rattle.rrc_cache.specs.Pairs.{EntriesOf}
use Rattle.rrc_cache.proofs.Tails.{opened_ends}
use Rattle.rrc_cache.proofs.chapter_entries.ChapterEntries.close.Goals as goal

pub invariant_of-snapshot : goal.invariant_of-snapshot
invariant_of-snapshot c = rw c.in_ok-entries.ensures ((sound_exactly c.args.rules c.args.first c.args.self.now.entries).1 c.requires)

pub invariant_of-self : goal.invariant_of-self
invariant_of-self c =
    let snapshot : Snapshot = record { rules = c.args.rules; first = c.args.first; entries = c.in_ok-entries.field-0 } in
    let all : c.args.self.now.entries ≡ c.self.inside.map.entries = sym (ap (λ (map : EntriesOf). map.entries) c.self.view_is) in
    let opening : c.new-2.result.opening ≡ snapshot = c.new-2.ensures.opening ∙ (c.in_ok-clone.ensures.cases ∙ c.in_ok-snapshot.ensures.ok) in
    opened_ends c.args.rules.capacity c.new-2.result snapshot c.self.inside.map.entries (subst (AreSound c.args.rules.capacity c.args.first) all c.requires) (c.in_ok-entries.ensures ∙ all) opening
    c.new-2.ensures.moved (c.new-2.ensures.next ∙ ap (λ (s : Snapshot). s.first) (c.in_ok-clone.ensures.cases ∙ c.in_ok-snapshot.ensures.ok))
