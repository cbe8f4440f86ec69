-- SPDX-License-Identifier: MIT
use Rattle.std.proofs.Common.{rules, arith, ap}
use Rattle.rrc_marks.proofs.Allowed.{draw_allowed}
use Rattle.rrc_marks.proofs.marks.Marks.draw.Goals as goal

pub fetch_add-number-requires : goal.fetch_add-number-requires
fetch_add-number-requires c = (search rules, search rules, draw_allowed _ _ _ _ _ (omega (arith, ap (λ h. h.view.turns) c.pass.view_is)))
