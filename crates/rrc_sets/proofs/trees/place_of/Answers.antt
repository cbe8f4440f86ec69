-- SPDX-License-Identifier: MIT
use Rattle.std.proofs.Common.{◌≡◌, ◌∙◌, sym, ap, length, Option, Some, None, ℕ}
use Rattle.std.specs.Option.{unwrap_or}
use Rattle.std.specs.BTreeMap.{get}
use Rattle.rrc_sets.specs.Trees.{pair_order}
use Rattle.rrc_sets.proofs.Finding.{key-found, FindsPlaces-stay, FindsPlaces-put}
use Rattle.rrc_sets.proofs.trees.place_of.Goals as goal

pub returns-in-Some-clause-place : goal.returns-in-Some-clause-place
returns-in-Some-clause-place c =
    let places = c.args.places.now in let sets = c.args.sets.now in let rr = c.args.rr.now in let key = c.in_ok-key.key in
    let is : get pair_order places key ≡ Some c.in-Some.place = sym c.get.ensures.value ∙ (sym c.copied.ensures ∙ c.in-Some.is) in
    ap (λ (found : Option ℕ). unwrap_or found (length sets)) (sym is ∙ key-found sets rr places key c.requires c.in_ok-key.ensures.rtype c.in_ok-key.ensures.owner)

pub returns-in-Some-clause-finds : goal.returns-in-Some-clause-finds
returns-in-Some-clause-finds c =
    let places = c.args.places.now in let sets = c.args.sets.now in let rr = c.args.rr.now in let key = c.in_ok-key.key in
    let is : get pair_order places key ≡ Some c.in-Some.place = sym c.get.ensures.value ∙ (sym c.copied.ensures ∙ c.in-Some.is) in
    FindsPlaces-stay sets rr places key c.requires c.in_ok-key.ensures.rtype c.in_ok-key.ensures.owner c.in-Some.place is

pub returns-in_ok-insert-in-None-clause-place : goal.returns-in_ok-insert-in-None-clause-place
returns-in_ok-insert-in-None-clause-place c =
    let places = c.args.places.now in let sets = c.args.sets.now in let rr = c.args.rr.now in let key = c.in_ok-key.key in
    let is : get pair_order places key ≡ None = sym c.get.ensures.value ∙ (sym c.copied.ensures ∙ c.in-None.is) in
    ap (λ (found : Option ℕ). unwrap_or found (length sets)) (sym is ∙ key-found sets rr places key c.requires c.in_ok-key.ensures.rtype c.in_ok-key.ensures.owner)

pub returns-in_ok-insert-in-None-clause-finds : goal.returns-in_ok-insert-in-None-clause-finds
returns-in_ok-insert-in-None-clause-finds c =
    let places = c.args.places.now in let sets = c.args.sets.now in let rr = c.args.rr.now in let key = c.in_ok-key.key in
    let is : get pair_order places key ≡ None = sym c.get.ensures.value ∙ (sym c.copied.ensures ∙ c.in-None.is) in
    FindsPlaces-put sets rr places key c.requires c.in_ok-key.ensures.rtype c.in_ok-key.ensures.owner c.insert.new.self is c.in_ok-insert-in-None.ensures.updates.0
