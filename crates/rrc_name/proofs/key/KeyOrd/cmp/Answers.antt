-- SPDX-License-Identifier: MIT
use Rattle.std.proofs.Common.{◌≡◌, ◌∙◌, ap}
use Rattle.std.specs.Ordering.{nat_cmp, ordering_then}
use Rattle.rrc_name.specs.Key.{KeyOf, slot_order, order_in_name}
use Rattle.rrc_name.specs.Order.{canonical_order}
use Rattle.rrc_name.proofs.NameTies.{key_order-folded}
use Rattle.rrc_name.proofs.key.KeyOrd.cmp.Goals as goal

pub returns : goal.returns
returns c =
    let a = c.args.self.now in
    let b = c.args.other.now in
    let names : c.canonical_cmp-names.result ≡ canonical_order a.name b.name = rw (← c.name.ensures.value, ← c.name-2.ensures.value) c.canonical_cmp-names.ensures.value in
    let class = ap (λ (k : KeyOf). k.class) c.self.view_is in
    let class_b = ap (λ (k : KeyOf). k.class) c.other.view_is in
    let classes : c.cmp-classes.result ≡ nat_cmp a.class b.class =
    c.cmp-classes.ensures ∙ (ap (λ n. nat_cmp n c.other.inside.class) class ∙ ap (λ n. nat_cmp a.class n) class_b) in
    let slot = ap (λ (k : KeyOf). k.slot) c.self.view_is in
    let slot_b = ap (λ (k : KeyOf). k.slot) c.other.view_is in
    let slots : c.cmp-slots.result ≡ slot_order a.slot b.slot =
    c.cmp-slots.ensures ∙ (ap (λ s. slot_order s c.other.inside.slot) slot ∙ ap (λ s. slot_order a.slot s) slot_b) in
    let in_name : c.then.result ≡ order_in_name a b =
    c.then.ensures ∙ (ap (λ o. ordering_then o c.cmp-slots.result) classes ∙ ap (λ o. ordering_then (nat_cmp a.class b.class) o) slots) in
    c.then-2.ensures ∙ (ap (λ o. ordering_then o c.then.result) names ∙ (ap (λ o. ordering_then (canonical_order a.name b.name) o) in_name
    ∙ key_order-folded a b c.name.ensures.name c.name-2.ensures.name c.name.ensures.folded c.name-2.ensures.folded))
