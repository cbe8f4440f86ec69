-- SPDX-License-Identifier: MIT
use Rattle.std.proofs.Common.{◌≡◌, map, ap, ◌∙◌}
use Rattle.rrc_history.specs.Images.{image_of_entry}
use Rattle.rrc_history.specs.lemmas.ImagesWhole.{image-snapshot_fault}
use Rattle.rrc_history.proofs.images.snapshot_from_classless.Goals as goal

pub invariant_of-result : goal.invariant_of-result
invariant_of-result c =
    let entries : c.from_vec.result ≡ map image_of_entry c.snapshot.inside.entries =
    c.from_vec.ensures ∙ (c.in_ok-entries_of.ensures ∙ ap (map image_of_entry) c.as_slice.ensures) in
    rw entries (image-snapshot_fault c.snapshot.inside.rules c.snapshot.inside.first c.snapshot.inside.entries ∙ c.snapshot.invariant)
