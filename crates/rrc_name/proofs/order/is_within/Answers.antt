-- SPDX-License-Identifier: MIT
use Rattle.std.proofs.Common.{◌≡◌, ◌-◌, Decides, drop, length}
use Rattle.std.proofs.lemmas.Bool.Decides.{same_from_decides}
use Rattle.rrc_name.specs.Wire.{labels_of}
use Rattle.rrc_name.specs.Order.{IsAtOrBelow, is_at_or_below}
use Rattle.rrc_name.proofs.LabelOrder.{last_labels-Decides, is_at_or_below-decides}
use Rattle.rrc_name.proofs.order.is_within.Goals as goal

tells : (c : goal.After-is_same) → Decides c.is_same.result (IsAtOrBelow c.args.name.now c.args.zone.now)
tells c =
    let labels : labels_of c.behind_labels.result.now ≡ drop (length (labels_of c.args.name.now) - length (labels_of c.args.zone.now)) (labels_of c.args.name.now) =
    rw (← c.label_count-count.ensures, ← c.label_count-zone_count.ensures) c.behind_labels.ensures.labels in
    last_labels-Decides c.args.name.now c.behind_labels.result.now c.args.zone.now c.behind_labels.ensures.is_name c.requires.zone_name labels c.is_same.result c.is_same.ensures

pub returns-then-count-zone_count-clause-value : goal.returns-then-count-zone_count-clause-value
returns-then-count-zone_count-clause-value c =
    same_from_decides c.is_same.result (is_at_or_below c.args.name.now c.args.zone.now) (tells c) (is_at_or_below-decides c.args.name.now c.args.zone.now)

pub returns-then-count-zone_count-clause-meaning : goal.returns-then-count-zone_count-clause-meaning
returns-then-count-zone_count-clause-meaning c = tells c
