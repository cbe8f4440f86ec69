-- SPDX-License-Identifier: MIT
use Rattle.std.proofs.Common.{sym, ◌∙◌}
use Rattle.rrc_text.proofs.CutLemmas.{cut_at, uncut}
use Rattle.rrc_trace.proofs.read.trace.cut.Goals as goal

pub returns-in-Some-clause-cut : goal.returns-in-Some-clause-cut
returns-in-Some-clause-cut c = cut_at c.args.octets.now c.in-Some.place (sym c.first_lf.ensures.place ∙ c.in-Some.is)

pub returns-in-None-clause-cut : goal.returns-in-None-clause-cut
returns-in-None-clause-cut c = uncut c.args.octets.now (sym c.first_lf.ensures.place ∙ c.in-None.is)
