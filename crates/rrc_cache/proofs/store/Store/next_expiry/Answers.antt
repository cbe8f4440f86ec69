-- SPDX-License-Identifier: MIT
use Rattle.std.proofs.Common.{rules, ◌≡◌, ℕ, ◌<◌, ◌≤◌, ◌∙◌, List, [], length, false, true, subst, sym, ap}
use Rattle.std.specs.Prelude.{IfSome}
use Rattle.std.proofs.lemmas.List.{nil_from_length}
use Rattle.std.proofs.lemmas.Option.{IfSome_then}
use Rattle.rrc_name.specs.Key.{KeyOf}
use Rattle.rrc_history.specs.declared.snapshot.Entry.{Entry}
use Rattle.rrc_history.specs.Lives.{LAST_MOMENT}
use Rattle.rrc_history.specs.Past.{entry_at}
use Rattle.rrc_history.specs.Right.{is_swept}
use Rattle.rrc_cache.specs.ExpiryQueue.{ExpiryQueueOf}
use Rattle.rrc_cache.specs.Pairs.{StoreOf}
use Rattle.rrc_cache.proofs.Timed.{expires_none, none_before, soonest_none}
use Rattle.rrc_cache.proofs.store.Store.next_expiry.Goals as goal

pub returns-then-not-is_kept-clause-some : goal.returns-then-not-is_kept-clause-some
returns-then-not-is_kept-clause-some c = λ key moment less timely.
    let queue : ExpiryQueueOf = c.self.inside.queue in
    let unkept : queue.kept ≡ false = sym c.is_kept.ensures ∙ c.if-not-is_kept.true in
    ap (λ (store : StoreOf). is_swept store.stale (entry_at key store.entries) moment) (sym c.self.view_is)
    ∙ none_before c.self.inside.stale c.self.inside.filtered.entries queue c.self.invariant.queued queue.soonest (λ k m l. soonest_none k m queue unkept l)
    key moment (subst (λ t. moment < t) c.soonest.ensures less) timely

pub returns-clause-some : goal.returns-clause-some
returns-clause-some c =
    let stale : ℕ = c.self.inside.stale in
    let queue : ExpiryQueueOf = c.self.inside.queue in
    let entries : List Entry = c.self.inside.filtered.entries in
    let short : length c.due.result.now ≡ 0 = search rules in
    let kept : queue.kept ≡ true = search rules in
    let none : queue.due ≡ [] = sym c.due.ensures ∙ nil_from_length c.due.result.now short in
    subst (λ (store : StoreOf). IfSome c.first.result (λ time. (key : KeyOf) → (moment : ℕ) → moment < time → moment ≤ LAST_MOMENT → is_swept store.stale (entry_at key store.entries) moment ≡ false)) c.self.view_is
    (IfSome_then c.first.result c.first.ensures.some (λ time all. none_before stale entries queue c.self.invariant.queued time (λ key moment less. expires_none key moment time queue kept none all less)))
