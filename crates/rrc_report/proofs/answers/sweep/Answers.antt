-- SPDX-License-Identifier: MIT
use Rattle.std.proofs.Common.{◌≡◌, ◌++◌, [], ◌∷◌, ◌∙◌, rules}
use Rattle.rrc_report.proofs.CallSteps.{swept_more}
use Rattle.rrc_report.proofs.answers.sweep.Goals as goal

pub loop-part-preserved : goal.loop-part-preserved
loop-part-preserved g c =
    let added : c.push.new.self ≡ c.loop-part.counts ++ c.in_ok-sweep_part.field-0 ∷ [] = search rules in (
      c.sweep_part.ensures.count ∙ c.loop-part.invariant.0,
      rw added
          (swept_more g.C.Calls.makes c.args.line c.args.moment c.loop-part.part c.args.cache.now c.loop-part.cache c.sweep_part.new.self c.loop-part.counts
          c.in_ok-sweep_part.field-0 c.loop-part.invariant.1 c.in_ok-sweep_part.ensures.ok),
    )
