-- SPDX-License-Identifier: MIT
-- each lock that is left has its room, and each part so far is sound
use Rattle.std.proofs.Common.{◌≡◌, ◌+◌, ◌≤◌, All, vec_len, vec_capacity}
use Rattle.std.specs.Vec.Iter.{into_iter_len}
use Rattle.rrc_share.specs.CacheShelf.{IsSoundBy}
use Rattle.rrc_share.proofs.shared.SharedCache.into_parts.Given as goal

abbrev pub invariant-loop-lock : goal.invariant-loop-lock
invariant-loop-lock l =
    (vec_len l.kept + into_iter_len l.lock-iterator ≡ l.fn.self)
    × (l.fn.self ≤ vec_capacity l.kept)
    × All (λ kept. IsSoundBy kept.records kept.shelf) l.kept.items
