-- SPDX-License-Identifier: MIT
use Rattle.std.proofs.Common.{length, ap, sym, ◌∙◌}
use Rattle.rrc_collate.specs.Operations.{operations_of}
use Rattle.rrc_collate.proofs.Everywhere.{length_everywhere}
use Rattle.rrc_collate.proofs.operations.Operations.len.Goals as goal

pub returns-in-Everywhere : goal.returns-in-Everywhere
returns-in-Everywhere c =
    let list = sym c.self.view_is ∙ ap operations_of c.in-Everywhere.is in
    sym (ap length list ∙ length_everywhere c.in-Everywhere.call 0 c.in-Everywhere.parts)
