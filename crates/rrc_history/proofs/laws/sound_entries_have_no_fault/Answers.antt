-- SPDX-License-Identifier: MIT
use Rattle.rrc_history.specs.lemmas.SnapshotLaws.{sound_exactly}
use Rattle.rrc_history.proofs.laws.sound_entries_have_no_fault.Goals as goal

pub returns : goal.returns
returns c = sound_exactly
