-- SPDX-License-Identifier: MIT
-- where the lists are alike from the place on they are alike
use Rattle.std.proofs.Common.{◌≡◌, drop}
use Rattle.rrc_replay.proofs.history.has_entries.Given as goal

abbrev pub invariant-loop-place : goal.invariant-loop-place
invariant-loop-place l = drop l.place l.list ≡ drop l.place l.entries → l.list ≡ l.entries
