-- SPDX-License-Identifier: MIT
use Rattle.std.proofs.Common.{◌∙◌}
use Rattle.rrc_report.proofs.CallSteps.{closed_more}
use Rattle.rrc_report.proofs.answers.close.Goals as goal

pub loop-part-preserved : goal.loop-part-preserved
loop-part-preserved g c = (
  c.close_part.ensures.count ∙ c.loop-part.invariant.0,
  closed_more g.C.Calls.makes c.loop-part.part c.args.cache.now c.loop-part.cache c.close_part.new.self c.loop-part.invariant.1 c.in_ok-close_part.ensures.ok,
)
