-- SPDX-License-Identifier: MIT
use Rattle.std.proofs.Common.{rules}
use Rattle.rrc_trace.proofs.read.trace.line_at.Goals as goal

pub returns-in-Err-NotOne : goal.returns-in-Err-NotOne
returns-in-Err-NotOne c = search rules fits 100
