-- SPDX-License-Identifier: MIT
use Rattle.std.proofs.Common.{rules}
use Rattle.rrc_replay.proofs.whole_run.run.Goals as goal

pub returns-clause-ok : goal.returns-clause-ok
returns-clause-ok g c = search rules

pub returns-clause-writer : goal.returns-clause-writer
returns-clause-writer g c = search rules

pub returns-in_err-report-clause-writer : goal.returns-in_err-report-clause-writer
returns-in_err-report-clause-writer g c = search rules
