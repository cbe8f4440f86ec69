-- SPDX-License-Identifier: MIT
use Rattle.rrc_name.proofs.ReadAgain.{read_again}
use Rattle.rrc_name.proofs.laws.reading_undoes_printing.Goals as goal

pub returns : goal.returns
returns c = read_again
