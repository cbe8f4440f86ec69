-- SPDX-License-Identifier: MIT
use Rattle.rrc_collate.proofs.HandLemmas.{shown_put}
use Rattle.rrc_collate.proofs.hands.Hands.put.Goals as goal

pub returns : goal.returns
returns c =
    shown_put (λ hand. hand.items) (λ event. event.now) c.self.inside.hands.items c.args.self.now c.args.worker c.index_mut.result.now c.push_back.new.self c.args.event
    c.self.view_is c.requires c.index_mut.ensures.value c.in_ok-push_back.ensures.items
