-- SPDX-License-Identifier: MIT
use Rattle.rrc_history.specs.lemmas.LawsHold.{legal_keeps_laws}
use Rattle.rrc_history.proofs.laws.legal_histories_keep_the_laws.Goals as goal

pub returns : goal.returns
returns c = legal_keeps_laws
