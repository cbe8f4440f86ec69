-- SPDX-License-Identifier: MIT
use Rattle.std.proofs.Common.{refl}
use Rattle.rrc_history.specs.declared.event.Event.{Event}
use Rattle.rrc_history.specs.declared.event.Event.TheVariants.{Offered}
use Rattle.rrc_cache.specs.Lean.{IsLeanOpen}
use Rattle.rrc_cache.proofs.LeanKeeping.{lean_done}
use Rattle.rrc_cache.proofs.lean.LeanPart.take.Goals as goal

pub invariant_of-self-2 : goal.invariant_of-self-2
invariant_of-self-2 c =
    let event : Event = Offered c.in_ok-outcome.outcome c.args.tag c.args.offer.now c.in_ok-outcome.evicted in
    let open' : IsLeanOpen c.args.self.now c.args.offer.now.moment = rw (← c.offer.view_is) (c.in_ok-admit.ensures.due) in
    (lean_done c.args.self.now c.self.inside.history.part c.then-self-inside.result.part c.self.inside.number c.self.inside.next c.self.inside.rules
    c.self.inside.store c.take.new.store c.self.inside.swept_until 0 event c.self.view_is c.then-self-inside.ensures c.self.invariant open'
    (c.in_ok-outcome.ensures.fit, c.in_ok-outcome.ensures.ok) c.in_ok-outcome.ensures.stale refl).holds

pub returns-clause-ok : goal.returns-clause-ok
returns-clause-ok c =
    let event : Event = Offered c.in_ok-outcome.outcome c.args.tag c.args.offer.now c.in_ok-outcome.evicted in
    let open' : IsLeanOpen c.args.self.now c.args.offer.now.moment = rw (← c.offer.view_is) (c.in_ok-admit.ensures.due) in
    (lean_done c.args.self.now c.self.inside.history.part c.then-self-inside.result.part c.self.inside.number c.self.inside.next c.self.inside.rules
    c.self.inside.store c.take.new.store c.self.inside.swept_until 0 event c.self.view_is c.then-self-inside.ensures c.self.invariant open'
    (c.in_ok-outcome.ensures.fit, c.in_ok-outcome.ensures.ok) c.in_ok-outcome.ensures.stale refl).adds
