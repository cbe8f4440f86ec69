-- SPDX-License-Identifier: MIT
use Rattle.rrc_name.specs.Wire.{labels_of}
use Rattle.rrc_name.proofs.LabelOrder.{outweighed-canonical}
use Rattle.rrc_name.proofs.order.order_of_names.Goals as goal

pub returns : goal.returns
returns c =
    let canonical = outweighed-canonical (labels_of c.args.a.now) (labels_of c.args.b.now) in
    rw (c.outweigh.ensures, c.cmp.ensures, c.behind_labels-a.ensures.labels, c.behind_labels-b.ensures.labels, c.saturating_sub.ensures, c.saturating_sub-2.ensures, c.label_count-count.ensures, c.label_count-other.ensures) canonical
