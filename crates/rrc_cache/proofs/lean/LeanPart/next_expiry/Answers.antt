-- SPDX-License-Identifier: MIT
use Rattle.std.proofs.Common.{◌≡◌, ℕ, ◌-◌, ◌^◌, List, subst, sym, ap, ◌∙◌}
use Rattle.std.specs.Prelude.{min}
use Rattle.rrc_history.specs.declared.snapshot.Entry.{Entry}
use Rattle.rrc_history.specs.Past.{entry_at}
use Rattle.rrc_history.specs.Right.{is_swept}
use Rattle.rrc_cache.specs.Expiry.{HoldsSomething, IsAfterLastSweep, NoneFullyExpiresBefore}
use Rattle.rrc_cache.specs.Part.{PartOf}
use Rattle.rrc_cache.proofs.SweptUntil.{after_last_sweep, holds_something, none_before_told, told_time}
use Rattle.rrc_cache.proofs.lean.LeanPart.next_expiry.Goals as goal

pub returns-in-Some-clause-some : goal.returns-in-Some-clause-some
returns-in-Some-clause-some c =
    let part : PartOf = c.self.inside.history.part in
    let entries : List Entry = c.self.inside.store.entries in
    let swept : ℕ = c.self.inside.swept_until in
    let told : c.min.result ≡ told_time c.in-Some.time swept = c.min.ensures ∙ ap (λ time. min time (2 ^ 64 - 2)) c.max.ensures in
    let queued : NoneFullyExpiresBefore part c.in-Some.time = λ key moment less timely.
    ap (λ found. is_swept part.snapshot.rules.stale found moment) (sym (c.self.invariant.leaves.contents.agree key))
    ∙ (ap (λ stale. is_swept stale (entry_at key entries) moment) (sym c.self.invariant.stale) ∙ c.in-Some.ensures.some key moment less timely) in
    subst (λ p. NoneFullyExpiresBefore p c.min.result) c.self.view_is
    (subst (λ time. NoneFullyExpiresBefore part time) (sym told) (none_before_told part swept c.self.invariant.sweeps c.self.invariant.sound.legal c.in-Some.time queued))

pub returns-in-Some-clause-holds : goal.returns-in-Some-clause-holds
returns-in-Some-clause-holds c =
    subst HoldsSomething c.self.view_is
    (holds_something c.self.inside.history.part c.self.inside.store.entries c.self.invariant.leaves.contents c.in-Some.ensures.holds)

pub returns-in-Some-clause-progress : goal.returns-in-Some-clause-progress
returns-in-Some-clause-progress c =
    let part : PartOf = c.self.inside.history.part in
    let swept : ℕ = c.self.inside.swept_until in
    let told : c.min.result ≡ told_time c.in-Some.time swept = c.min.ensures ∙ ap (λ time. min time (2 ^ 64 - 2)) c.max.ensures in
    subst (λ p. IsAfterLastSweep p c.min.result) c.self.view_is
    (subst (λ time. IsAfterLastSweep part time) (sym told) (after_last_sweep part swept c.self.invariant.sweeps c.self.invariant.sound.legal c.in-Some.time))
