-- SPDX-License-Identifier: MIT
use Rattle.std.proofs.Common.{◌∙◌, sym, ap, drop}
use Rattle.std.proofs.lemmas.List.{drop-drop}
use Rattle.rrc_name.specs.Wire.{labels_of}
use Rattle.rrc_name.proofs.order.behind_labels.Goals as goal

pub loop-passed-preserved : goal.loop-passed-preserved
loop-passed-preserved c =
    let rest = c.in-Some.ensures.label.labels in
    record {
      is_name = c.in-Some.ensures.label.is_name;
      labels = ap (drop 1) (sym rest ∙ c.loop-passed.invariant.labels) ∙ drop-drop 1 c.loop-passed._passed (labels_of c.args.name.now);
    }
