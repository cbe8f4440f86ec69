-- SPDX-License-Identifier: MIT
-- the events so far are legal, and the store holds what they leave
use Rattle.std.proofs.Common.{take}
use Rattle.std.specs.Prelude.{reverse}
use Rattle.rrc_cache.proofs.Rechecked.{IsRechecked}
use Rattle.rrc_cache.proofs.rechecks.replayed.Given as goal

abbrev pub invariant-loop-place : goal.invariant-loop-place
invariant-loop-place l = IsRechecked l.snapshot (reverse (take l.place l.events)) l.store
