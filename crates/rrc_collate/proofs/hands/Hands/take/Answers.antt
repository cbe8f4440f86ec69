-- SPDX-License-Identifier: MIT
use Rattle.rrc_collate.proofs.HandLemmas.{shown_taken}
use Rattle.rrc_collate.proofs.hands.Hands.take.Goals as goal

pub returns-clause-rest : goal.returns-clause-rest
returns-clause-rest c =
    shown_taken (λ hand. hand.items) (λ event. event.now) c.self.inside.hands.items c.args.self.now c.args.worker c.index_mut.result.now c.pop_front.new.self
    c.self.view_is c.requires c.index_mut.ensures.value c.pop_front.ensures.rest
