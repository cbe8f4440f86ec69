-- SPDX-License-Identifier: MIT
use Rattle.rrc_history.specs.lemmas.EqualityLaws.{snapshot_eq-Decides}
use Rattle.rrc_history.proofs.laws.same_snapshots_are_one.Goals as goal

pub returns : goal.returns
returns c = snapshot_eq-Decides
