-- SPDX-License-Identifier: MIT
use Rattle.std.proofs.Common.{◌≡◌, ℕ, ◌+◌, List, refl, ap, subst, sym, ◌∙◌}
use Rattle.rrc_name.specs.Key.{KeyOf}
use Rattle.rrc_history.specs.declared.event.Event.{Event}
use Rattle.rrc_history.specs.declared.event.Event.TheVariants.{Swept}
use Rattle.rrc_history.specs.declared.rules.Rules.{Rules}
use Rattle.rrc_history.specs.Entries.{staying}
use Rattle.rrc_history.specs.Past.{is_among}
use Rattle.rrc_cache.specs.Lean.{with_event}
use Rattle.rrc_cache.specs.Pairs.{StoreOf}
use Rattle.rrc_cache.specs.Taken.{AreExpiredKeys}
use Rattle.rrc_cache.proofs.LeanKeeping.{lean_done}
use Rattle.rrc_cache.proofs.lean.LeanPart.clear.Goals as goal

pub invariant_of-self-2 : goal.invariant_of-self-2
invariant_of-self-2 c =
    let gone : List KeyOf = c.in_ok-gone.gone.items in
    let event : List KeyOf → Event = λ keys. Swept c.args.tag c.args.moment keys in
    let D : ℕ → Type 0 = λ stale. AreExpiredKeys stale c.args.moment c.self.inside.store.entries gone in
    let expired : D c.self.inside.rules.stale =
    subst D (c.self.invariant.stale ∙ ap (λ (rules : Rules). rules.stale) (sym c.self.invariant.ruled)) c.in_ok-gone.ensures.expired in
    let removed : c.remove.new.store.entries ≡ staying (λ key. is_among key gone) c.self.inside.store.entries =
    ap (λ (store : StoreOf). store.entries) c.remove.ensures
    ∙ (ap (λ (keys : List KeyOf). staying (λ key. is_among key keys) c.expired_keys.new.store.entries) c.as_slice.ensures.value
    ∙ ap (λ (store : StoreOf). staying (λ key. is_among key gone) store.entries) c.expired_keys.ensures.same) in
    (lean_done c.args.self.now c.self.inside.history.part c.then-self-inside.result.part c.self.inside.number c.self.inside.next c.self.inside.rules
    c.self.inside.store c.remove.new.store c.self.inside.swept_until (c.args.moment + 1) (event gone) c.self.view_is
    (c.then-self-inside.ensures ∙ ap (λ keys. with_event c.self.inside.history.part (event keys)) c.as_slice-2.ensures.value)
    c.self.invariant c.in_ok-admit.ensures.due (expired, removed)
    (ap (λ (store : StoreOf). store.stale) c.remove.ensures ∙ ap (λ (store : StoreOf). store.stale) c.expired_keys.ensures.same) refl).holds

pub returns-clause-ok : goal.returns-clause-ok
returns-clause-ok c =
    let gone : List KeyOf = c.in_ok-gone.gone.items in
    let event : List KeyOf → Event = λ keys. Swept c.args.tag c.args.moment keys in
    let D : ℕ → Type 0 = λ stale. AreExpiredKeys stale c.args.moment c.self.inside.store.entries gone in
    let expired : D c.self.inside.rules.stale =
    subst D (c.self.invariant.stale ∙ ap (λ (rules : Rules). rules.stale) (sym c.self.invariant.ruled)) c.in_ok-gone.ensures.expired in
    let removed : c.remove.new.store.entries ≡ staying (λ key. is_among key gone) c.self.inside.store.entries =
    ap (λ (store : StoreOf). store.entries) c.remove.ensures
    ∙ (ap (λ (keys : List KeyOf). staying (λ key. is_among key keys) c.expired_keys.new.store.entries) c.as_slice.ensures.value
    ∙ ap (λ (store : StoreOf). staying (λ key. is_among key gone) store.entries) c.expired_keys.ensures.same) in
    (lean_done c.args.self.now c.self.inside.history.part c.then-self-inside.result.part c.self.inside.number c.self.inside.next c.self.inside.rules
    c.self.inside.store c.remove.new.store c.self.inside.swept_until (c.args.moment + 1) (event gone) c.self.view_is
    (c.then-self-inside.ensures ∙ ap (λ keys. with_event c.self.inside.history.part (event keys)) c.as_slice-2.ensures.value)
    c.self.invariant c.in_ok-admit.ensures.due (expired, removed)
    (ap (λ (store : StoreOf). store.stale) c.remove.ensures ∙ ap (λ (store : StoreOf). store.stale) c.expired_keys.ensures.same) refl).adds
