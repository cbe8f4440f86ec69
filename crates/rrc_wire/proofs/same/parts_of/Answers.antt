-- SPDX-License-Identifier: MIT
use Rattle.std.proofs.Common.{drop}
use Rattle.rrc_wire.specs.Shown.{as_layout}
use Rattle.rrc_wire.proofs.LoweredParts.{split_of}
use Rattle.rrc_wire.proofs.same.parts_of.Goals as goal

pub returns-clause-names : goal.returns-clause-names
returns-clause-names c =
    let rest = drop c.args.layout.before c.args.octets.now in
    let names = (split_of (as_layout c.args.layout) c.args.octets.now c.requires).names in
    rw (c.split_at-2.ensures.front, c.from-2.ensures, c.split_at.ensures.back, c.from.ensures) names
