-- SPDX-License-Identifier: MIT
use Rattle.rrc_history.specs.lemmas.SnapshotLaws.{sound_by}
use Rattle.rrc_history.proofs.snapshot.Snapshot.rules.Goals as goal

pub returns-clause-sound : goal.returns-clause-sound
returns-clause-sound c = rw (← c.self.view_is) (sound_by c.self.inside.rules.capacity c.self.inside.first c.self.inside.entries c.self.invariant)
