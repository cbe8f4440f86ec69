-- SPDX-License-Identifier: MIT
use Rattle.std.proofs.Common.{rules}
use Rattle.rrc_trace.proofs.questions.Questions.len.Goals as goal

pub returns : goal.returns
returns c = search rules fits 100
