-- SPDX-License-Identifier: MIT
use Rattle.rrc_share.specs.CacheShelf.{CacheShelfOf}
use Rattle.rrc_share.proofs.Got.{sound_of}
use Rattle.rrc_share.proofs.shared.SharedCache.release_part.Goals as goal

pub returns-clause-by_part : goal.returns-clause-by_part
returns-clause-by_part g c =
    let part : CacheShelfOf = c.deref_mut.result.now in
    record {
      old = part;
      new = c.release.new.shelf;
      sound = sound_of part c.part-part.result.value c.deref_mut.ensures.value c.part-part.ensures;
      ok = c.release.ensures.ok;
      err = c.release.ensures.err;
      due = c.release.ensures.due;
    }
