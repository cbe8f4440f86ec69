-- SPDX-License-Identifier: MIT
-- the hands of the parts so far are empty
use Rattle.std.proofs.Common.{◌≡◌, [], take}
use Rattle.std.specs.List.{All}
use Rattle.rrc_collate.proofs.order.are_empty.Given as goal

abbrev pub invariant-loop-hands : goal.invariant-loop-hands
invariant-loop-hands l = All (λ hands. All (λ hand. hand ≡ []) hands) (take l.hands-index l.parts)
