-- SPDX-License-Identifier: MIT
-- The limits by which a trace is replayed.
use Rattle.std.proofs.Math.Dec.{lit≤}
use Rattle.rrc_sets.specs.declared.limits.Limits.{Limits}

-- data live for a week at most (RFC 8767 4), a negative answer for three hours (RFC 2308 5), and a failure for half a minute (RFC 2308 7, RFC 8767 5)
abbrev pub LIMITS : Limits
LIMITS =
    record {
      cap = 604800;
      negative_cap = 10800;
      recheck = 30;
      some_cap = lit≤ tt;
      cap_within = lit≤ tt;
      some_negative_cap = lit≤ tt;
      negative_cap_within = lit≤ tt;
      some_recheck = lit≤ tt;
      recheck_within = lit≤ tt;
    }
