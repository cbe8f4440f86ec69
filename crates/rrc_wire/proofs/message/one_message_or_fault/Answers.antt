-- SPDX-License-Identifier: MIT
use Rattle.rrc_wire.proofs.Laws.{message_or_fault}
use Rattle.rrc_wire.proofs.message.one_message_or_fault.Goals as goal

pub returns : goal.returns
returns c = message_or_fault
