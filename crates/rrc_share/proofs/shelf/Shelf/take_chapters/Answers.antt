-- SPDX-License-Identifier: MIT
use Rattle.rrc_share.proofs.Shelved.{shelf_of}
use Rattle.rrc_share.proofs.shelf.Shelf.take_chapters.Goals as goal

pub invariant_of-self : goal.invariant_of-self
invariant_of-self c = rw (c.replace.ensures.after, c.new.ensures.items) (shelf_of c.self.inside.part c.has_sound_snapshot.ensures)
