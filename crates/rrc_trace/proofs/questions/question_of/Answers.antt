-- SPDX-License-Identifier: MIT
use Rattle.std.proofs.Common.{rules}
use Rattle.rrc_trace.proofs.questions.question_of.Goals as goal

pub returns : goal.returns
returns c = search rules fits 100
