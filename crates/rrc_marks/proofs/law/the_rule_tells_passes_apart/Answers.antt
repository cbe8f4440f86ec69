-- SPDX-License-Identifier: MIT
use Rattle.rrc_marks.proofs.Apart.{one_holder, drawn_once, next_is_new, ends_alone}
use Rattle.rrc_marks.proofs.law.the_rule_tells_passes_apart.Goals as goal

pub returns : goal.returns
returns c = record { one_holder = one_holder; drawn_once = drawn_once; next_is_new = next_is_new; end = ends_alone }
