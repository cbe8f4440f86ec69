-- SPDX-License-Identifier: MIT
-- the store holds what it held
use Rattle.std.proofs.Common.{◌≡◌}
use Rattle.rrc_cache.proofs.sweep.requeue.Given as goal

abbrev pub invariant-loop : goal.invariant-loop
invariant-loop l = l.store ≡ l.initial.store
