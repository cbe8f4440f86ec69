-- SPDX-License-Identifier: MIT
use Rattle.rrc_wire.proofs.FirstFaults.{first_fault-is}
use Rattle.rrc_wire.proofs.message.first_fault_is_the_readers.Goals as goal

pub returns : goal.returns
returns c = first_fault-is
