-- SPDX-License-Identifier: MIT
use Rattle.std.proofs.Common.{arith}
use Rattle.std.proofs.lemmas.List.Elements.{All-push}
use Rattle.rrc_share.specs.CacheShelf.{IsSoundBy}
use Rattle.rrc_share.proofs.shared.SharedCache.into_parts.Goals as goal

pub loop-lock-preserved : goal.loop-lock-preserved
loop-lock-preserved c = (
  omega (arith, c.push_reserved.ensures.len, c.in-Some.ensures.steps.1),
  omega (arith, c.push_reserved.ensures.capacity),
  rw c.push_reserved.ensures.items (All-push (λ kept. IsSoundBy kept.records kept.shelf) c.loop-lock.kept.items c.unlocked.result c.loop-lock.invariant.2 c.unlocked.ensures),
)
