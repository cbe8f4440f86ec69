-- SPDX-License-Identifier: MIT
use Rattle.std.proofs.Common.{List, Bor, subst}
use Rattle.std.specs.Prelude.{IfSome}
use Rattle.rrc_history.specs.declared.event.Event.{Event}
use Rattle.rrc_collate.specs.Drawn.{DrawnOf}
use Rattle.rrc_collate.specs.Collated.{histories_of, AreInOrder}
use Rattle.rrc_collate.proofs.HandLemmas.{shown}
use Rattle.rrc_collate.proofs.Ordered.{lines_below, events_named}
use Rattle.rrc_collate.proofs.fit.collate.Goals as goal

pub are_in_turn-requires-clause-lines : goal.are_in_turn-requires-clause-lines
are_in_turn-requires-clause-lines c =
    let now : Bor Event → Event = λ borrowed. borrowed.now in
    let items : DrawnOf → List (Bor Event) = λ own. own.items in
    let histories = histories_of c.args.wholes.now in
    let ordered = subst (λ found. IfSome found (λ events. AreInOrder c.args.lines c.args.workers c.args.tasks.now histories (shown items now events.items))) c.in-Some.is c.in_ok-order.ensures.ordered in
    lines_below c.args.lines c.args.workers c.args.tasks.now histories (shown items now c.in-Some.events.items) ordered

pub are_in_turn-requires-clause-named : goal.are_in_turn-requires-clause-named
are_in_turn-requires-clause-named c =
    let now : Bor Event → Event = λ borrowed. borrowed.now in
    let items : DrawnOf → List (Bor Event) = λ own. own.items in
    let histories = histories_of c.args.wholes.now in
    let ordered = subst (λ found. IfSome found (λ events. AreInOrder c.args.lines c.args.workers c.args.tasks.now histories (shown items now events.items))) c.in-Some.is c.in_ok-order.ensures.ordered in
    events_named c.args.lines c.args.workers c.args.tasks.now c.args.wholes.now (shown items now c.in-Some.events.items) ordered
