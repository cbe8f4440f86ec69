-- SPDX-License-Identifier: MIT
use Rattle.rrc_share.proofs.Shelved.{shelf_of}
use Rattle.rrc_share.proofs.shelf.Shelf.new.Goals as goal

pub invariant_of-result : goal.invariant_of-result
invariant_of-result c = rw c.new.ensures.items (shelf_of c.args.part c.has_sound_snapshot.ensures)
