-- SPDX-License-Identifier: MIT
use Rattle.std.proofs.Common.{◌≡◌, Some, sym, ap, ◌∙◌, true, arith}
use Rattle.rrc_history.specs.declared.event.Event.TheVariants.{Swept}
use Rattle.rrc_history.specs.declared.snapshot.Entry.{Entry}
use Rattle.rrc_history.specs.Fits.{fits}
use Rattle.rrc_history.specs.Views.{held_in}
use Rattle.rrc_cache.specs.Lean.{with_event}
use Rattle.rrc_cache.specs.Pairs.{StoreOf}
use Rattle.rrc_cache.proofs.Evicting.{data_gone, failure_gone, none_gone}
use Rattle.rrc_cache.proofs.LeanKeeping.{last_fits}
use Rattle.rrc_cache.proofs.lean.LeanPart.evict_last.Goals as goal

pub returns-in_default-clause-ok : goal.returns-in_default-clause-ok
returns-in_default-clause-ok c =
    none_gone c.args.self.now c.self.inside.history.part c.self.inside.number c.self.inside.next c.self.inside.rules c.self.inside.store c.self.inside.swept_until c.self.view_is c.self.invariant
    c.in_default.ensures

pub invariant_of-self : goal.invariant_of-self
invariant_of-self c =
    let before : StoreOf = c.self.inside.store in
    let entry : Entry = held_in c.in-Some.held in
    let fit : fits entry.key entry.body ≡ true = last_fits before.entries (Some c.in-Some.held) c.self.invariant.leaves.kept.fit c.in-Some.ensures in
    (data_gone c.args.self.now c.self.inside.history.part c.then-self-inside.result.part c.self.inside.number c.self.inside.next c.self.inside.rules before c.remove_last.new.self
    c.self.inside.swept_until c.args.tag c.args.moment entry c.self.view_is c.self.invariant c.requires c.in-Some.ensures fit
    (omega (arith, c.if-self-ge-NUMBER_LIMIT.false)) (omega (arith, c.if-moment-gt-LAST_MOMENT.false)) (ap (λ (store : StoreOf). store.entries) c.remove_last.ensures.entries)
    (ap (λ (store : StoreOf). store.stale) c.remove_last.ensures.entries) (sym c.if-is_data.ensures) c.then-self-inside.ensures).kept

pub returns-then-is_data-clause-ok : goal.returns-then-is_data-clause-ok
returns-then-is_data-clause-ok c =
    let before : StoreOf = c.self.inside.store in
    let entry : Entry = held_in c.in-Some.held in
    let fit : fits entry.key entry.body ≡ true = last_fits before.entries (Some c.in-Some.held) c.self.invariant.leaves.kept.fit c.in-Some.ensures in
    (data_gone c.args.self.now c.self.inside.history.part c.then-self-inside.result.part c.self.inside.number c.self.inside.next c.self.inside.rules before c.remove_last.new.self
    c.self.inside.swept_until c.args.tag c.args.moment entry c.self.view_is c.self.invariant c.requires c.in-Some.ensures fit
    (omega (arith, c.if-self-ge-NUMBER_LIMIT.false)) (omega (arith, c.if-moment-gt-LAST_MOMENT.false)) (ap (λ (store : StoreOf). store.entries) c.remove_last.ensures.entries)
    (ap (λ (store : StoreOf). store.stale) c.remove_last.ensures.entries) (sym c.if-is_data.ensures) c.then-self-inside.ensures).evicts

pub invariant_of-self-2 : goal.invariant_of-self-2
invariant_of-self-2 c =
    let before : StoreOf = c.self.inside.store in
    let entry : Entry = held_in c.in-Some.held in
    let fit : fits entry.key entry.body ≡ true = last_fits before.entries (Some c.in-Some.held) c.self.invariant.leaves.kept.fit c.in-Some.ensures in
    (failure_gone c.args.self.now c.self.inside.history.part c.then-self-inside-2.result.part c.self.inside.number c.self.inside.next c.self.inside.rules before c.remove_last-2.new.self
    c.self.inside.swept_until c.args.tag c.args.moment entry c.self.view_is c.self.invariant c.requires c.in-Some.ensures fit
    (omega (arith, c.if-self-ge-NUMBER_LIMIT.false)) (omega (arith, c.if-moment-gt-LAST_MOMENT.false)) (ap (λ (store : StoreOf). store.entries) c.remove_last-2.ensures.entries)
    (ap (λ (store : StoreOf). store.stale) c.remove_last-2.ensures.entries) (sym c.if-is_data.ensures) c.then-ended.result.part c.then-ended.ensures
    (c.then-self-inside-2.ensures ∙ ap (λ keys. with_event c.then-ended.result.part (Swept c.args.tag 0 keys)) c.from_ref.ensures.value)).kept

pub returns-clause-ok : goal.returns-clause-ok
returns-clause-ok c =
    let before : StoreOf = c.self.inside.store in
    let entry : Entry = held_in c.in-Some.held in
    let fit : fits entry.key entry.body ≡ true = last_fits before.entries (Some c.in-Some.held) c.self.invariant.leaves.kept.fit c.in-Some.ensures in
    (failure_gone c.args.self.now c.self.inside.history.part c.then-self-inside-2.result.part c.self.inside.number c.self.inside.next c.self.inside.rules before c.remove_last-2.new.self
    c.self.inside.swept_until c.args.tag c.args.moment entry c.self.view_is c.self.invariant c.requires c.in-Some.ensures fit
    (omega (arith, c.if-self-ge-NUMBER_LIMIT.false)) (omega (arith, c.if-moment-gt-LAST_MOMENT.false)) (ap (λ (store : StoreOf). store.entries) c.remove_last-2.ensures.entries)
    (ap (λ (store : StoreOf). store.stale) c.remove_last-2.ensures.entries) (sym c.if-is_data.ensures) c.then-ended.result.part c.then-ended.ensures
    (c.then-self-inside-2.ensures ∙ ap (λ keys. with_event c.then-ended.result.part (Swept c.args.tag 0 keys)) c.from_ref.ensures.value)).evicts
