-- SPDX-License-Identifier: MIT
use Rattle.rrc_script.proofs.Scripted.{one_script}
use Rattle.rrc_script.proofs.scripts.one_script.Goals as goal

pub returns : goal.returns
returns c = one_script c.one_message_or_fault.ensures
