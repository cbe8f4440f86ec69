-- SPDX-License-Identifier: MIT
use Rattle.std.proofs.Common.{Err, sym, ap, ◌∙◌}
use Rattle.rrc_wire.specs.Item.{item_at}
use Rattle.rrc_wire.proofs.Chains.{nowhere}
use Rattle.rrc_wire.proofs.source.target_of.Goals as goal

pub returns-in-Err : goal.returns-in-Err
returns-in-Err c =
    let message = c.args.message.now in
    nowhere message c.args.place (Err c.in-Err.field-0) (ap (λ run. item_at message run 0 c.args.place) (sym c.to_end.ensures) ∙ c.in-Err.ensures) (λ target h. cc)
