-- SPDX-License-Identifier: MIT
use Rattle.rrc_history.proofs.Joining.{laws_by}
use Rattle.rrc_history.proofs.chains.join_chained.Goals as goal

pub returns-clause-laws : goal.returns-clause-laws
returns-clause-laws c = laws_by c.join.result c.join.ensures.leads
