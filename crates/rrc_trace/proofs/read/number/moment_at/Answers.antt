-- SPDX-License-Identifier: MIT
use Rattle.std.proofs.Common.{rules}
use Rattle.rrc_trace.proofs.read.number.moment_at.Goals as goal

pub returns-in_err-number_in : goal.returns-in_err-number_in
returns-in_err-number_in c = search rules fits 100

pub returns : goal.returns
returns c = search rules fits 100
