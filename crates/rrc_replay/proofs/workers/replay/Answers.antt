-- SPDX-License-Identifier: MIT
use Rattle.std.proofs.Common.{rules}
use Rattle.rrc_replay.proofs.workers.replay.Goals as goal

pub returns-clause-collated : goal.returns-clause-collated
returns-clause-collated g c = search rules
