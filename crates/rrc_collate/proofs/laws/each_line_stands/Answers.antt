-- SPDX-License-Identifier: MIT
use Rattle.rrc_collate.proofs.LinesLaw.{each_line}
use Rattle.rrc_collate.proofs.laws.each_line_stands.Goals as goal

pub returns : goal.returns
returns c = each_line
