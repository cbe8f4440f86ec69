-- SPDX-License-Identifier: MIT
use Rattle.rrc_text.proofs.OutputLemmas.{then}
use Rattle.rrc_text.proofs.write.pieces.put_label.Goals as goal

pub returns : goal.returns
returns g c = then c.put_spelled.ensures c.put_word.ensures
