-- SPDX-License-Identifier: MIT
use Rattle.std.proofs.Common.{◌<◌, List, Vec, Global, Bor, ap, subst, sym, ◌∙◌}
use Rattle.std.specs.Prelude.{IfSome, is_some}
use Rattle.std.specs.List.{All}
use Rattle.rrc_history.specs.declared.event.Event.{Event}
use Rattle.rrc_collate.specs.Drawn.{DrawnOf}
use Rattle.rrc_collate.specs.declared.valued.Valued.{Valued}
use Rattle.rrc_collate.specs.Words.{NeverFalls, AreSharedOut, AreOwners}
use Rattle.rrc_collate.specs.Collated.{taken_by, histories_of}
use Rattle.rrc_collate.proofs.HandLemmas.{shown}
use Rattle.rrc_collate.proofs.Ordered.{taken_below, owners_below, ordered_by, only_by, strayed_by}
use Rattle.rrc_collate.proofs.order.order.Goals as goal

pub never_falls-requires : goal.never_falls-requires
never_falls-requires c =
    subst (λ taken. All (λ (valued : Valued). valued.class < c.args.workers) taken) (sym (c.as_slice.ensures.value ∙ c.in_ok-taken.ensures))
    (taken_below c.args.workers c.args.tasks.now c.requires.workers)

pub events_in-requires-clause-owners : goal.events_in-requires-clause-owners
events_in-requires-clause-owners c =
    let is_taken = c.as_slice-2.ensures.value ∙ c.in_ok-taken.ensures in
    let found = subst (λ found. IfSome found (λ owners. AreOwners c.args.lines c.as_slice-2.result.now owners.items)) c.in-Some.is c.in_ok-owners.ensures.owners in
    let owners = c.as_slice-in-Some.result.now in
    let are : AreOwners c.args.lines (taken_by c.args.tasks.now) owners =
    subst (λ taken. AreOwners c.args.lines taken owners) is_taken
    (subst (λ items. AreOwners c.args.lines c.as_slice-2.result.now items) (sym c.as_slice-in-Some.ensures.value) found) in
    owners_below c.args.lines c.args.workers c.args.tasks.now owners c.requires.workers are

pub returns-clause-ordered : goal.returns-clause-ordered
returns-clause-ordered c =
    let is_taken = c.as_slice-2.ensures.value ∙ c.in_ok-taken.ensures in
    let found = subst (λ found. IfSome found (λ owners. AreOwners c.args.lines c.as_slice-2.result.now owners.items)) c.in-Some.is c.in_ok-owners.ensures.owners in
    let owners = c.as_slice-in-Some.result.now in
    let are : AreOwners c.args.lines (taken_by c.args.tasks.now) owners =
    subst (λ taken. AreOwners c.args.lines taken owners) is_taken
    (subst (λ items. AreOwners c.args.lines c.as_slice-2.result.now items) (sym c.as_slice-in-Some.ensures.value) found) in
    let now : Bor Event → Event = λ borrowed. borrowed.now in
    let items : DrawnOf → List (Bor Event) = λ own. own.items in
    let show : Vec DrawnOf Global → List (List Event) = λ events. shown items now events.items in
    let shared_out = subst (λ taken. AreSharedOut c.args.lines taken) is_taken (c.in_ok-owners.ensures.shared_out.0 (ap is_some c.in-Some.is)) in
    let rising = subst (λ taken. NeverFalls taken) (c.as_slice.ensures.value ∙ c.in_ok-taken.ensures) (c.in_ok-never_falls.ensures.0 c.if-not-branch.false) in
    ordered_by show c.args.lines c.args.workers owners c.args.tasks.now (histories_of c.args.wholes.now) c.events_in.result shared_out rising are c.events_in.ensures.written

pub returns-clause-only : goal.returns-clause-only
returns-clause-only c =
    let is_taken = c.as_slice-2.ensures.value ∙ c.in_ok-taken.ensures in
    let found = subst (λ found. IfSome found (λ owners. AreOwners c.args.lines c.as_slice-2.result.now owners.items)) c.in-Some.is c.in_ok-owners.ensures.owners in
    let owners = c.as_slice-in-Some.result.now in
    let are : AreOwners c.args.lines (taken_by c.args.tasks.now) owners =
    subst (λ taken. AreOwners c.args.lines taken owners) is_taken
    (subst (λ items. AreOwners c.args.lines c.as_slice-2.result.now items) (sym c.as_slice-in-Some.ensures.value) found) in
    let now : Bor Event → Event = λ borrowed. borrowed.now in
    let items : DrawnOf → List (Bor Event) = λ own. own.items in
    let show : Vec DrawnOf Global → List (List Event) = λ events. shown items now events.items in
    only_by show c.args.lines c.args.workers owners c.args.tasks.now (histories_of c.args.wholes.now) c.events_in.result are c.events_in.ensures.only

pub returns-clause-strayed : goal.returns-clause-strayed
returns-clause-strayed c =
    let is_taken = c.as_slice-2.ensures.value ∙ c.in_ok-taken.ensures in
    let found = subst (λ found. IfSome found (λ owners. AreOwners c.args.lines c.as_slice-2.result.now owners.items)) c.in-Some.is c.in_ok-owners.ensures.owners in
    let owners = c.as_slice-in-Some.result.now in
    let are : AreOwners c.args.lines (taken_by c.args.tasks.now) owners =
    subst (λ taken. AreOwners c.args.lines taken owners) is_taken
    (subst (λ items. AreOwners c.args.lines c.as_slice-2.result.now items) (sym c.as_slice-in-Some.ensures.value) found) in
    strayed_by c.args.lines c.args.workers owners c.args.tasks.now (histories_of c.args.wholes.now) c.events_in.result are c.events_in.ensures.strayed
