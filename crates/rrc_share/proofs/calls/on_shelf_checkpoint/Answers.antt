-- SPDX-License-Identifier: MIT
use Rattle.std.proofs.Common.{◌++◌, ◌∷◌, [], ap, ◌∙◌}
use Rattle.rrc_share.proofs.Shelved.{IsShut, is_shut}
use Rattle.rrc_share.proofs.calls.on_shelf_checkpoint.Goals as goal

shut : (c : goal.After-push_reserved) → IsShut c.shelf.inside.closed.items c.shelf.inside.part c.push_reserved.new.self.items c.checkpoint.new.self
shut c =
    is_shut c.shelf.inside.closed.items c.shelf.inside.part c.push_reserved.new.self.items c.checkpoint.new.self c.in_ok-chapter.chapter c.in_ok-chapter.ensures.ok
    (c.push_reserved.ensures.items ∙ ap (λ closed. closed ++ c.in_ok-chapter.chapter ∷ []) c.reserve.ensures.items) c.shelf.invariant

pub invariant_of-shelf-2 : goal.invariant_of-shelf-2
invariant_of-shelf-2 c = (shut c).shelf

pub returns-clause-ok : goal.returns-clause-ok
returns-clause-ok c = rw (← c.shelf.view_is) ((shut c).shuts)
