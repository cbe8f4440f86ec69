-- SPDX-License-Identifier: MIT
use Rattle.rrc_replay.proofs.history.HistoryFaultDisplay.fmt.Goals as goal

pub returns-in-NotLegal-clause-writes : goal.returns-in-NotLegal-clause-writes
returns-in-NotLegal-clause-writes g c = rw c.in-NotLegal.is c.write-in-NotLegal.ensures.writes
