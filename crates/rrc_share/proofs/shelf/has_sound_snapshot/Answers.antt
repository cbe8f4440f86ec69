-- SPDX-License-Identifier: MIT
use Rattle.std.proofs.Common.{subst}
use Rattle.rrc_history.specs.declared.snapshot.Snapshot.{Snapshot}
use Rattle.rrc_history.specs.Sound.{AreSound}
use Rattle.rrc_share.proofs.shelf.has_sound_snapshot.Goals as goal

pub returns : goal.returns
returns c =
    let P : Snapshot → Type 0 = λ snapshot. AreSound snapshot.rules.capacity snapshot.first snapshot.entries in
    subst P c.snapshot.ensures.value c.rules.ensures.sound
