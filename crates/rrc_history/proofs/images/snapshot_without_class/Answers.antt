-- SPDX-License-Identifier: MIT
use Rattle.std.proofs.Common.{◌≡◌, List, map, ap, sym, ◌∙◌}
use Rattle.rrc_history.specs.declared.snapshot.Entry.{Entry}
use Rattle.rrc_history.specs.declared.snapshot.Snapshot.{Snapshot}
use Rattle.rrc_history.specs.Images.{image_of_entry, entry_without_class}
use Rattle.rrc_history.specs.Snapshots.{snapshot_fault}
use Rattle.rrc_history.specs.lemmas.ImagesWhole.{image-snapshot_fault}
use Rattle.rrc_history.proofs.images.snapshot_without_class.Goals as goal

pub invariant_of-result : goal.invariant_of-result
invariant_of-result c =
    let entries : List Entry = c.snapshot.inside.entries in
    let is : entries ≡ c.args.snapshot.now.entries = ap (λ (s : Snapshot). s.entries) c.snapshot.view_is in
    let whole : map image_of_entry (map entry_without_class entries) ≡ entries =
    ap (λ es. map image_of_entry (map entry_without_class es)) is ∙ (c.requires ∙ sym is) in
    let made : c.from_vec.result ≡ map entry_without_class entries = c.from_vec.ensures ∙ c.in_ok-entries_without_class.ensures in
    rw made
    (sym (image-snapshot_fault c.snapshot.inside.rules c.snapshot.inside.first (map entry_without_class entries))
    ∙ (ap (snapshot_fault c.snapshot.inside.rules c.snapshot.inside.first) whole ∙ c.snapshot.invariant))
