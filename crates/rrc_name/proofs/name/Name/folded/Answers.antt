-- SPDX-License-Identifier: MIT
use Rattle.std.proofs.Common.{◌≡◌, ◌∙◌, ap, subst, sym, rules}
use Rattle.rrc_name.specs.Wire.{IsWireForm, folded}
use Rattle.rrc_name.specs.Key.{IsFolded}
use Rattle.rrc_name.specs.lemmas.Folding.{folded-folded}
use Rattle.rrc_name.proofs.WireForms.{folded-IsWireForm}
use Rattle.rrc_name.proofs.name.Name.folded.Goals as goal

pub returns-then-is_folded : goal.returns-then-is_folded
returns-then-is_folded c =
    let seen = c.as_slice.ensures ∙ (c.deref.ensures ∙ c.self.view_is) in
    let same : folded c.args.self.now ≡ c.args.self.now = subst IsFolded seen (c.is_folded.ensures.0 c.if-is_folded.true) in rw same (search rules)

pub invariant_of-result : goal.invariant_of-result
invariant_of-result c =
    subst IsWireForm (sym (c.in_ok-new.ensures.ok ∙ (c.in_ok-lowered.ensures ∙ ap folded c.deref-3.ensures))) (folded-IsWireForm c.self.inside.wire c.self.invariant)

pub returns-clause-low : goal.returns-clause-low
returns-clause-low c =
    subst IsFolded (sym (c.in_ok-new.ensures.ok ∙ (c.in_ok-lowered.ensures ∙ ap folded c.deref-3.ensures))) (folded-folded c.self.inside.wire)
