-- SPDX-License-Identifier: MIT
use Rattle.rrc_script.proofs.Scripted.{not_both}
use Rattle.rrc_script.proofs.scripts.first_fault.Goals as goal

pub returns-in-Ok-clause-none : goal.returns-in-Ok-clause-none
returns-in-Ok-clause-none c = λ fault first. not_both c.one_message_or_fault.ensures c.args.octets.now c.in-Ok.field-0 fault c.in-Ok.ensures.ok first
