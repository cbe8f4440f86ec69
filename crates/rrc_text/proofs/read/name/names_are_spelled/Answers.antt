-- SPDX-License-Identifier: MIT
use Rattle.rrc_text.proofs.NameLemmas.{says_what_is_spelled}
use Rattle.rrc_text.proofs.read.name.names_are_spelled.Goals as goal

pub returns : goal.returns
returns c = says_what_is_spelled
