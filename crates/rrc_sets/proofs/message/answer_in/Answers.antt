-- SPDX-License-Identifier: MIT
use Rattle.std.proofs.Common.{inr, sym, ◌∙◌}
use Rattle.rrc_sets.specs.RelevantMessage.{by_message}
use Rattle.rrc_sets.proofs.message.answer_in.Goals as goal

pub returns-in-Some-mismatch-clause-err : goal.returns-in-Some-mismatch-clause-err
returns-in-Some-mismatch-clause-err c =
    inr (inr (by_message (sym c.front_mismatch.ensures ∙ c.in_default.is) c.in_ok-message.ensures.ok (sym c.mismatch.ensures ∙ c.in-Some-mismatch.is)))
