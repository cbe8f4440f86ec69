-- SPDX-License-Identifier: MIT
-- the entries behind the place stand in their order
use Rattle.std.proofs.Common.{◌≡◌, drop}
use Rattle.rrc_cache.proofs.Paired.{seen}
use Rattle.rrc_cache.proofs.store.Store.of.Given as goal

abbrev pub invariant-loop-place : goal.invariant-loop-place
invariant-loop-place l = l.store ≡ seen l.seeded l.snapshot.rules.stale (drop l.place l.entries)
