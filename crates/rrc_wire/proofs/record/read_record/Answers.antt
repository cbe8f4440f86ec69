-- SPDX-License-Identifier: MIT
use Rattle.std.proofs.Common.{rules}
use Rattle.rrc_wire.proofs.record.read_record.Goals as goal

pub returns-clause-gives : goal.returns-clause-gives
returns-clause-gives c = search rules fits 300

pub returns-in_err-read_data-clause-gives : goal.returns-in_err-read_data-clause-gives
returns-in_err-read_data-clause-gives c = search rules fits 300

pub invariant_of-rr-2 : goal.invariant_of-rr-2
invariant_of-rr-2 c = search rules fits 100
