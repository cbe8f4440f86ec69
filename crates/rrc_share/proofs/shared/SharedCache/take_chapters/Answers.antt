-- SPDX-License-Identifier: MIT
use Rattle.rrc_share.specs.CacheShelf.{CacheShelfOf}
use Rattle.rrc_share.proofs.Got.{sound_of}
use Rattle.rrc_share.proofs.shared.SharedCache.take_chapters.Goals as goal

pub returns-clause-chapters : goal.returns-clause-chapters
returns-clause-chapters g c =
    let part : CacheShelfOf = c.deref_mut.result.now in (
      part,
      sound_of part c.part-part.result.value c.deref_mut.ensures.value c.part-part.ensures,
      c.take_chapters.ensures.chapters,
    )
