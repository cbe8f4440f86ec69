-- SPDX-License-Identifier: MIT
use Rattle.std.proofs.Common.{◌≡◌, sym, ap, ◌∙◌}
use Rattle.std.specs.Cmp.Lexicographic.{bytes_decides}
use Rattle.rrc_name.specs.Order.{outweighed}
use Rattle.rrc_name.specs.Wire.{labels_of}
use Rattle.rrc_name.proofs.LabelOrder.{outweighed-same}
use Rattle.rrc_name.proofs.order.outweigh.Goals as goal

-- src/order.rt:57:13
pub returns-then-eq : goal.returns-then-eq
returns-then-eq c =
    let same : c.loop-label.a.now ≡ c.loop-label.b.now = (bytes_decides c.loop-label.a.now c.loop-label.b.now).0 (sym c.if-eq.ensures) in
    sym (outweighed-same c.loop-label.order (labels_of c.loop-label.a.now))
    ∙ (ap (λ rest. outweighed c.loop-label.order (labels_of c.loop-label.a.now) (labels_of rest)) same ∙ c.loop-label.invariant.kept)
