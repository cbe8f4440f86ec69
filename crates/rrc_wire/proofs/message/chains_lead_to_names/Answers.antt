-- SPDX-License-Identifier: MIT
use Rattle.rrc_wire.proofs.Chains.{leads_to_name}
use Rattle.rrc_wire.proofs.message.chains_lead_to_names.Goals as goal

pub returns : goal.returns
returns c = leads_to_name
