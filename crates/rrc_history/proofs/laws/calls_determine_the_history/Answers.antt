-- SPDX-License-Identifier: MIT
use Rattle.rrc_history.specs.lemmas.OneHistory.{calls_determine}
use Rattle.rrc_history.proofs.laws.calls_determine_the_history.Goals as goal

pub returns : goal.returns
returns c = calls_determine
