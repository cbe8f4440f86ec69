-- SPDX-License-Identifier: MIT
use Rattle.rrc_history.specs.lemmas.Openings.{opening}
use Rattle.rrc_history.proofs.laws.snapshots_lead_to_themselves.Goals as goal

pub returns : goal.returns
returns c = opening
