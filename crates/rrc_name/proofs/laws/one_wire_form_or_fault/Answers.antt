-- SPDX-License-Identifier: MIT
use Rattle.rrc_name.proofs.WireLaw.{form_or_fault}
use Rattle.rrc_name.proofs.laws.one_wire_form_or_fault.Goals as goal

pub returns : goal.returns
returns c = form_or_fault
