-- SPDX-License-Identifier: MIT
-- so many empty hands
use Rattle.std.proofs.Common.{◌≡◌, replicate, []}
use Rattle.rrc_collate.proofs.HandLemmas.{shown}
use Rattle.rrc_collate.proofs.hands.Hands.empty.Given as goal

abbrev pub invariant-loop : goal.invariant-loop
invariant-loop l = shown (λ hand. hand.items) (λ event. event.now) l.hands.items ≡ replicate l.counter []
