-- SPDX-License-Identifier: MIT
-- A step of any kind keeps the rule.
use Rattle.std.proofs.Common.{sym, subst}
use Rattle.rrc_marks.specs.Steps.{draws, wins, loses, finishes, splits, joins, looks}
use Rattle.rrc_marks.specs.Laws.{Keeps, EachStepKeepsTheRule}
use Rattle.rrc_marks.proofs.Keeps.{step_keeps, draw_keeps, win_keeps, finish_keeps, split_keeps, join_keeps}

pub steps_keep : EachStepKeepsTheRule
steps_keep marks turns draws id v s t kept at has step = subst (Keeps marks turns) (sym step.1) (draw_keeps marks turns s.words s.views kept id v at step.0)
steps_keep marks turns (wins m) id v s t kept at has step = subst (Keeps marks turns) (sym step.2) (win_keeps marks turns s.words s.views kept id v at m has step.0 step.1)
steps_keep marks turns (loses m) id v s t kept at has step = subst (Keeps marks turns) (sym step.2) (step_keeps marks turns s.words s.views kept id v at has)
steps_keep marks turns (finishes m) id v s t kept at has step = subst (Keeps marks turns) (sym step.2) (finish_keeps marks turns s.words s.views kept id v at m has step.0 step.1)
steps_keep marks turns (splits k) id v s t kept at has step = subst (Keeps marks turns) (sym step.3) (split_keeps marks turns s.words s.views kept id v at k step.0 step.1 step.2)
steps_keep marks turns (joins other) id v s t kept at has step = subst (Keeps marks turns) (sym step.3) (join_keeps marks turns s.words s.views kept id v at other step.0 has step.1 step.2)
steps_keep marks turns looks id v s t kept at has step = subst (Keeps marks turns) (sym step) (step_keeps marks turns s.words s.views kept id v at has)
