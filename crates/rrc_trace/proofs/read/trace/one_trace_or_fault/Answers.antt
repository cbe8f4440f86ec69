-- SPDX-License-Identifier: MIT
use Rattle.rrc_trace.proofs.TraceLaw.{trace_or_fault}
use Rattle.rrc_trace.proofs.read.trace.one_trace_or_fault.Goals as goal

pub returns : goal.returns
returns c = trace_or_fault
