-- SPDX-License-Identifier: MIT
-- as many locks so far as turns
use Rattle.std.proofs.Common.{◌≡◌, vec_len}
use Rattle.rrc_share.proofs.shared.SharedCache.made.Given as goal

abbrev pub invariant-loop : goal.invariant-loop
invariant-loop l = vec_len l.locks ≡ l.counter
