-- SPDX-License-Identifier: MIT
use Rattle.std.proofs.Common.{ap, ◌∙◌}
use Rattle.rrc_share.specs.CacheShelf.{CacheShelfOf, reply_of}
use Rattle.rrc_share.proofs.Got.{sound_of}
use Rattle.rrc_share.proofs.shared.SharedCache.would_answer.Goals as goal

pub returns-clause-ok : goal.returns-clause-ok
returns-clause-ok g c =
    let part : CacheShelfOf = c.deref.result.now in (
      part,
      sound_of part c.part-part.result.value c.deref.ensures c.part-part.ensures,
      c.in_ok-to_owned.ensures ∙ (c.would_answer.ensures ∙ ap (reply_of part.shelf) c.as_ref.ensures),
    )
