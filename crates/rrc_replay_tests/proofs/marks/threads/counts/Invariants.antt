-- SPDX-License-Identifier: MIT
use Rattle.std.proofs.Common.{◌≡◌, vec_len}
use Rattle.rrc_replay_tests.proofs.marks.threads.counts.Given as goal

abbrev pub invariant-loop : goal.invariant-loop
invariant-loop g l = vec_len l.counts ≡ l.counter
