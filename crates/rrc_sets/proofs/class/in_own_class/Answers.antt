-- SPDX-License-Identifier: MIT
use Rattle.std.proofs.Common.{sym, ◌∙◌}
use Rattle.rrc_sets.proofs.Classes.{own_is_whole}
use Rattle.rrc_sets.proofs.class.in_own_class.Goals as goal

pub returns-then-has_one_class : goal.returns-then-has_one_class
returns-then-has_one_class c = sym (own_is_whole c.args.message.now (sym c.has_one_class.ensures ∙ c.if-has_one_class.true))
