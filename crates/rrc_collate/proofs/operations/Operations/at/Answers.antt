-- SPDX-License-Identifier: MIT
use Rattle.std.proofs.Common.{◌<◌, length, ap, sym, subst, ◌∙◌}
use Rattle.std.specs.Prelude.{slice_get}
use Rattle.rrc_collate.specs.Operations.{operations_of}
use Rattle.rrc_collate.proofs.Everywhere.{length_everywhere, at_everywhere}
use Rattle.rrc_collate.proofs.operations.Operations.at.Goals as goal

pub returns-in-Everywhere : goal.returns-in-Everywhere
returns-in-Everywhere c =
    let call = c.in-Everywhere.call in
    let parts = c.in-Everywhere.parts in
    let place = c.args.place in
    let list = sym c.self.view_is ∙ ap operations_of c.in-Everywhere.is in
    let size = ap length list ∙ length_everywhere call 0 parts in
    let below = subst (λ n. place < n) size c.requires in
    ap (λ os. slice_get os place) list ∙ at_everywhere call parts place below
