-- SPDX-License-Identifier: MIT
use Rattle.std.proofs.Common.{◌∙◌, length, sym, ap, arith}
use Rattle.rrc_name.proofs.WireForms.{parted, behind_first}
use Rattle.rrc_name.proofs.label.first_label.Goals as goal

pub bounds-wire-0 : goal.bounds-wire-0
bounds-wire-0 c = (parted c.args.wire.now c.requires).some

pub returns-then-size-eq0-clause-root : goal.returns-then-size-eq0-clause-root
returns-then-size-eq0-clause-root c = (parted c.args.wire.now c.requires).root (sym c.from-size.ensures ∙ c.if-size-eq0.true)

pub split_at-requires : goal.split_at-requires
split_at-requires c = omega (arith, (parted c.args.wire.now c.requires).fits, ap length (behind_first c.args.wire.now), c.from-size.ensures)

pub returns-clause-label : goal.returns-clause-label
returns-clause-label c =
    let size = c.from-size.ensures in
    let begins = (parted c.args.wire.now c.requires).label (λ none. c.if-size-eq0.false (size ∙ none)) in
    rw (c.split_at.ensures.front, c.split_at.ensures.back, behind_first, size) begins
