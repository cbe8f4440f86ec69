-- SPDX-License-Identifier: MIT
use Rattle.std.proofs.Common.{◌≡◌, ◌++◌, ◌∷◌, [], sym, ap, subst, ◌∙◌, append_assoc}
use Rattle.std.specs.Vec.Iter.{into_iter_items}
use Rattle.rrc_report.specs.Steps.{ArePartHistories, CanNotClose}
use Rattle.rrc_report.proofs.WholeParts.{spent_among, no_parts, parts_more, begins, begins_not, handed_on}
use Rattle.rrc_report.proofs.wholes.wholes_of.Goals as goal

pub returns-in_err-whole-clause-err : goal.returns-in_err-whole-clause-err
returns-in_err-whole-clause-err c =
    let are : c.loop-shelf.yielded ++ c.in-Some.shelf ∷ into_iter_items c.next.new.self ≡ c.args.shelves.items =
    ap (λ rest. c.loop-shelf.yielded ++ rest) (sym c.in-Some.ensures.steps.0) ∙ c.loop-shelf.invariant.rest in
    handed_on c.from_residual-in_err-whole.result c.in_err-whole.field-0.0 (CanNotClose c.args.lines c.args.shelves.items) c.from_residual-in_err-whole.ensures.1
    (spent_among c.args.lines c.loop-shelf.yielded c.in-Some.shelf (into_iter_items c.next.new.self) c.args.shelves.items c.in_err-whole.field-0.0 are c.in_err-whole.ensures.err)

pub returns-then-not-begins_with-clause-none : goal.returns-then-not-begins_with-clause-none
returns-then-not-begins_with-clause-none c =
    let are : c.loop-shelf.yielded ++ c.in-Some.shelf ∷ into_iter_items c.next.new.self ≡ c.args.shelves.items =
    ap (λ rest. c.loop-shelf.yielded ++ rest) (sym c.in-Some.ensures.steps.0) ∙ c.loop-shelf.invariant.rest in
    no_parts c.args.rules.now c.loop-shelf.yielded c.in-Some.shelf (into_iter_items c.next.new.self) c.args.shelves.items c.in_ok-whole.whole are c.in_ok-whole.ensures.whole
    (λ same. begins_not c.in_ok-whole.whole.snapshot c.empty_under-empty.result c.begins_with.result c.begins_with.ensures c.if-not-begins_with.true (same ∙ sym c.empty_under-empty.ensures))

pub loop-shelf-preserved : goal.loop-shelf-preserved
loop-shelf-preserved c = record {
  parts =
      subst (ArePartHistories c.args.rules.now (c.loop-shelf.yielded ++ c.in-Some.shelf ∷ [])) (sym c.in_ok-push.ensures.items)
      (parts_more c.args.rules.now c.loop-shelf.yielded c.loop-shelf.wholes.items c.in-Some.shelf c.in_ok-whole.whole c.loop-shelf.invariant.parts c.in_ok-whole.ensures.whole
      (begins c.in_ok-whole.whole.snapshot c.empty_under-empty.result c.begins_with.result c.begins_with.ensures c.if-not-begins_with.false ∙ c.empty_under-empty.ensures));
  rest =
      append_assoc c.loop-shelf.yielded (c.in-Some.shelf ∷ []) (into_iter_items c.next.new.self)
      ∙ (ap (λ rest. c.loop-shelf.yielded ++ rest) (sym c.in-Some.ensures.steps.0) ∙ c.loop-shelf.invariant.rest);
}
