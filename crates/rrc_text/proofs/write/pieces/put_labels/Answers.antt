-- SPDX-License-Identifier: MIT
use Rattle.std.proofs.Common.{◌≡◌, [], ◌∷◌, ◌++◌, ap, sym, ◌∙◌, append_assoc}
use Rattle.std.specs.List.{flat_map}
use Rattle.rrc_name.specs.Text.{spelling_of, dotted}
use Rattle.rrc_name.specs.Wire.{labels_of}
use Rattle.rrc_text.proofs.OutputLemmas.{less_left}
use Rattle.rrc_text.proofs.write.pieces.put_labels.Goals as goal

pub loop-label-preserved : goal.loop-label-preserved
loop-label-preserved g c =
    let begins = c.in-Some.ensures.label in
    let spelled = flat_map spelling_of c.in-Some.label.now in
    let behind = dotted (labels_of c.in-Some.behind.now) in
    let split : dotted (labels_of c.loop-label.rest.now) ≡ (spelled ++ 46 ∷ []) ++ behind = ap dotted begins.labels ∙ sym (append_assoc spelled (46 ∷ []) behind) in
    (begins.is_name, less_left c.loop-label.invariant.1 split c.put_label.ensures)
