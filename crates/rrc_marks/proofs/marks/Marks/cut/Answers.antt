-- SPDX-License-Identifier: MIT
use Rattle.std.proofs.Common.{rules, arith}
use Rattle.rrc_marks.proofs.Allowed.{split_allowed}
use Rattle.rrc_marks.proofs.marks.Marks.cut.Goals as goal

pub split_seat-requires : goal.split_seat-requires
split_seat-requires g c = (search rules, omega arith, split_allowed _ _ _ _ _ (omega (arith, c.requires.gift)) (omega (arith, c.requires.gift)) (omega (arith, c.requires.gift)))
