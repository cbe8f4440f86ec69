-- SPDX-License-Identifier: MIT
use Rattle.std.proofs.Common.{◌≡◌, true, false, Some, None, rules, sym, ap, ◌∙◌, arith}
use Rattle.std.specs.Option.{option_map}
use Rattle.rrc_name.specs.Order.{is_at_or_below}
use Rattle.rrc_sets.specs.Aliases.{target_of}
use Rattle.rrc_sets.proofs.Chains.{end_within-outside, end_within-None, end_within-Some, end_within-past}
use Rattle.rrc_sets.proofs.kind.end_within.Goals as goal

pub returns-then-not-is_at_or_below : goal.returns-then-not-is_at_or_below
returns-then-not-is_at_or_below c =
    let outside : is_at_or_below c.loop-name.name c.args.zone.now ≡ false = search rules in
    sym (end_within-outside c.args.zone.now c.args.answer.now c.loop-name._name c.loop-name.name (omega arith) outside) ∙ c.loop-name.invariant

pub returns-in_default : goal.returns-in_default
returns-in_default c =
    let inside : is_at_or_below c.loop-name.name c.args.zone.now ≡ true = search rules in
    let named : c.as_slice.result.now ≡ c.loop-name.name = search rules in
    let none : target_of c.args.answer.now c.loop-name.name ≡ None =
    ap (target_of c.args.answer.now) (sym named) ∙ (sym c.target_of.ensures.value ∙ ap (option_map _) c.in_default.is) in
    sym (end_within-None c.args.zone.now c.args.answer.now c.loop-name._name c.loop-name.name (omega arith) inside none) ∙ c.loop-name.invariant

pub loop-name-preserved : goal.loop-name-preserved
loop-name-preserved c =
    let inside : is_at_or_below c.loop-name.name c.args.zone.now ≡ true = search rules in
    let named : c.as_slice.result.now ≡ c.loop-name.name = search rules in
    let next = c.in_ok-name.name in
    let some : target_of c.args.answer.now c.loop-name.name ≡ Some next =
    ap (target_of c.args.answer.now) (sym named) ∙ (sym c.in-Some.ensures.value ∙ ap Some (sym c.in_ok-name.ensures)) in
    sym (end_within-Some c.args.zone.now c.args.answer.now c.loop-name._name c.loop-name.name (omega arith) inside next some) ∙ c.loop-name.invariant

pub returns : goal.returns
returns c =
    sym (end_within-past c.args.zone.now c.args.answer.now c.loop-name._name c.loop-name.name (omega arith)) ∙ c.loop-name.invariant
