-- SPDX-License-Identifier: MIT
use Rattle.std.proofs.Common.{rules}
use Rattle.rrc_trace.proofs.read.trace.read_trace.Goals as goal

pub invariant_of-result : goal.invariant_of-result
invariant_of-result g c = search rules fits 100
