-- SPDX-License-Identifier: MIT
use Rattle.rrc_report.proofs.ToldLaws.{complete-one}
use Rattle.rrc_report.proofs.completions.one_completion.Goals as goal

pub returns : goal.returns
returns c = complete-one
