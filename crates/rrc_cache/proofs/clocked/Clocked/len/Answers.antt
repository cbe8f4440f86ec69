-- SPDX-License-Identifier: MIT
use Rattle.std.proofs.Common.{subst}
use Rattle.lru.specs.LruCache.{LruCache, IsValid}
use Rattle.rrc_history.specs.declared.snapshot.Entry.{Entry}
use Rattle.rrc_cache.specs.declared.hashed.HashedKey.{HashedKey}
use Rattle.rrc_cache.specs.Keyed.{hashed_eq}
use Rattle.rrc_cache.proofs.Clocking.{valid_bare}
use Rattle.rrc_cache.proofs.clocked.Clocked.len.Goals as goal

pub returns-clause-valid : goal.returns-clause-valid
returns-clause-valid c = subst (λ (m : LruCache HashedKey Entry). IsValid hashed_eq m) c.self.view_is (valid_bare c.self.inside.cache c.len.ensures.valid)
