-- SPDX-License-Identifier: MIT
-- the hands so far are empty
use Rattle.std.proofs.Common.{◌≡◌, [], take}
use Rattle.std.specs.List.{All}
use Rattle.rrc_collate.proofs.hands.Hands.is_empty.Given as goal

abbrev pub invariant-loop-hand : goal.invariant-loop-hand
invariant-loop-hand l = All (λ hand. hand ≡ []) (take l.hand-index l.self)
