-- SPDX-License-Identifier: MIT
-- What a lock hands out.
use Rattle.std.proofs.Common.{◌≡◌, sym, subst}
use Rattle.rrc_share.specs.CacheShelf.{CacheShelfOf, IsSoundBy}

-- a part that is called where it lies is as sound as when its lock was got
pub sound_of : (part got : CacheShelfOf) → part ≡ got → IsSoundBy got.records got.shelf → IsSoundBy part.records part.shelf
sound_of part got is sound = subst (λ (one : CacheShelfOf). IsSoundBy one.records one.shelf) (sym is) sound
