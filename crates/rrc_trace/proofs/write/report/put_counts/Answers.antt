-- SPDX-License-Identifier: MIT
use Rattle.std.proofs.Common.{◌≡◌, ◌+◌, ◌∷◌, ◌++◌, decimal, drop, arith}
use Rattle.std.proofs.lemmas.Grind.{common_steps}
use Rattle.std.proofs.Math.ListN.{get_or}
use Rattle.rrc_trace.specs.Report.{counts_text}
use Rattle.rrc_text.proofs.OutputLemmas.{then, less_left}
use Rattle.rrc_trace.proofs.write.report.put_counts.Goals as goal

pub loop-count-preserved : goal.loop-count-preserved
loop-count-preserved g c =
    let i = c.loop-count.count-index in
    let counts = c.args.counts.now in
    let split : counts_text (drop i counts) ≡ (32 ∷ decimal (get_or counts i 0)) ++ counts_text (drop (i + 1) counts) = grind (arith, common_steps) in
    less_left c.loop-count.invariant split (then c.put_word.ensures c.put_number.ensures)
