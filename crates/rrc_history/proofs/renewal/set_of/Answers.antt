-- SPDX-License-Identifier: MIT
use Rattle.std.proofs.Common.{rules, eqb, sym, ◌∙◌}
use Rattle.std.specs.HashSet as bag
use Rattle.std.proofs.lemmas.Result.{IfOk-weaker}
use Rattle.rrc_history.proofs.Renewed.{is_among}
use Rattle.rrc_history.proofs.renewal.set_of.Goals as goal

pub returns : goal.returns
returns c =
    IfOk-weaker c.collect.result (bag.IsFromIterResult eqb c.args.numbers.now) _ (λ set made entry. is_among set.keys entry ∙ (made.0 entry.number ∙ sym (is_among c.args.numbers.now entry)))
    (search rules)
