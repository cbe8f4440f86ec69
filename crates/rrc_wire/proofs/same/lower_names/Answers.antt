-- SPDX-License-Identifier: MIT
use Rattle.std.proofs.Common.{◌∙◌, ◌-◌, ◌++◌, take, drop, length, ap}
use Rattle.rrc_wire.specs.Shown.{as_layout}
use Rattle.rrc_wire.proofs.LoweredParts.{lowered_slice}
use Rattle.rrc_wire.proofs.same.lower_names.Goals as goal

pub returns : goal.returns
returns c =
    let octets = c.args.octets.now in let from = c.from-2.result in let many = length octets - c.from.result - from in
    ap (λ names. take from octets ++ (names ++ drop many (drop from octets))) c.make_ascii_lowercase.ensures.after
    ∙ lowered_slice (as_layout c.args.layout) octets c.requires from c.from.result c.from-2.ensures c.from.ensures
