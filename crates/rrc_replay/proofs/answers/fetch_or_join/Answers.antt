-- SPDX-License-Identifier: MIT
use Rattle.std.proofs.Common.{sym, ◌∙◌}
use Rattle.rrc_replay.proofs.QuestionNumbers.{numbered}
use Rattle.rrc_replay.proofs.answers.fetch_or_join.Goals as goal

pub unreachable-requires : goal.unreachable-requires
unreachable-requires g c =
    numbered c.args.common.now.trace.now c.questions.result.now c.args.fetch.now c.questions.ensures c.requires.stands
    (sym c.in_ok-mark.ensures ∙ c.in_default.is)
