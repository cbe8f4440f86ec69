-- SPDX-License-Identifier: MIT
use Rattle.std.proofs.Common.{◌∙◌, sym, ap}
use Rattle.std.specs.Option.{option_map}
use Rattle.rrc_wire.specs.Shown.{as_layout}
use Rattle.rrc_wire.proofs.Filling.{filled_plain}
use Rattle.rrc_wire.proofs.data.read_data.Goals as goal

pub returns-in-Some-clause-plain : goal.returns-in-Some-clause-plain
returns-in-Some-clause-plain c =
    filled_plain c.args.rtype (as_layout c.in-Some.layout) c.read_laid_out.result (sym c.layout_of.ensures ∙ ap (option_map as_layout) c.in-Some.is) c.read_laid_out.ensures.fills
