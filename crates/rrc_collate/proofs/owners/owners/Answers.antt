-- SPDX-License-Identifier: MIT
use Rattle.std.proofs.Common.{ap, subst, sym}
use Rattle.std.specs.Prelude.{IfSome, is_some}
use Rattle.rrc_collate.specs.Words.{AreClasses}
use Rattle.rrc_collate.proofs.Classes.{is_shared_out, has_owners}
use Rattle.rrc_collate.proofs.owners.owners.Goals as goal

pub returns-in-Some-clause-shared_out : goal.returns-in-Some-clause-shared_out
returns-in-Some-clause-shared_out c =
    let apart = c.in_ok-classes_of.ensures.apart.0 (ap is_some c.in-Some.is) in
    let classes = subst (λ found. IfSome found (λ classes. AreClasses c.args.lines c.args.taken.now classes.items)) c.in-Some.is c.in_ok-classes_of.ensures.classes in
    let read = subst (λ items. AreClasses c.args.lines c.args.taken.now items) (sym c.as_slice.ensures.value) classes in
    is_shared_out (λ values. values.items) c.args.lines c.args.taken.now c.as_slice.result.now c.all_of.result apart read c.all_of.ensures

pub returns-in-Some-clause-owners : goal.returns-in-Some-clause-owners
returns-in-Some-clause-owners c =
    let classes = subst (λ found. IfSome found (λ classes. AreClasses c.args.lines c.args.taken.now classes.items)) c.in-Some.is c.in_ok-classes_of.ensures.classes in
    let read = subst (λ items. AreClasses c.args.lines c.args.taken.now items) (sym c.as_slice.ensures.value) classes in
    has_owners (λ values. values.items) c.args.lines c.args.taken.now c.as_slice.result.now c.all_of.result read c.all_of.ensures
