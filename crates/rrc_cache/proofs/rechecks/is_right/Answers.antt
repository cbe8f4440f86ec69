-- SPDX-License-Identifier: MIT
use Rattle.std.proofs.Common.{◌≡◌, ℕ, ◌+◌, ◌^◌, ◌<◌, ◌≤◌, List, ◌∷◌, length, reverse, IfOk, true, false, sym, ap, subst, ◌∙◌, arith}
use Rattle.std.proofs.lemmas.List.{length-reverse}
use Rattle.std.proofs.lemmas.Result.{IfOk-weaker}
use Rattle.rrc_history.specs.declared.event.Event.{Event}
use Rattle.rrc_history.specs.declared.rules.Rules.{Rules}
use Rattle.rrc_history.specs.declared.snapshot.Snapshot.{Snapshot}
use Rattle.rrc_history.specs.Lives.{LAST_MOMENT}
use Rattle.rrc_history.specs.Past.{number_after, moment_of}
use Rattle.rrc_history.specs.Right.{IsRight}
use Rattle.rrc_cache.specs.Calls.{Leaves, IsMadeAgain}
use Rattle.rrc_cache.proofs.Written.{same_leaves, other_wrong}
use Rattle.rrc_cache.proofs.rechecks.is_right.Goals as goal

-- the event's number
number-of : (snapshot : Snapshot) (past : List Event) → number_after snapshot (reverse past) ≡ snapshot.first + length past
number-of snapshot past = ap (λ n. snapshot.first + n) (length-reverse past)

first-of : (c : goal.After-is_made_again) → number_after c.args.snapshot.now (reverse c.args.past.now) ≡ c.snapshot.inside.first + length c.args.past.now
first-of c = number-of c.args.snapshot.now c.args.past.now ∙ ap (λ (s : Snapshot). s.first + length c.args.past.now) (sym c.snapshot.view_is)

below : (c : goal.After-is_made_again) → number_after c.args.snapshot.now (reverse c.args.past.now) < 2 ^ 62
below c = omega (arith, first-of c, c.if-from-past.false, c.from.ensures)

timely : (c : goal.After-is_made_again) → moment_of c.args.event.now ≤ LAST_MOMENT
timely c = omega (arith, c.if-moment-gt-LAST_MOMENT.false, c.moment.ensures)

-- the call is made again by the rules of the snapshot, with the number of the event
again : (c : goal.After-is_made_again)
    → IfOk c.is_made_again.result (λ same. IsMadeAgain c.args.snapshot.now.rules (number_after c.args.snapshot.now (reverse c.args.past.now)) c.args.store.now.entries c.args.event.now same
    c.is_made_again.new.store.entries)
again c =
    let P : Rules → ℕ → Type 0 = λ rules n. IfOk c.is_made_again.result (λ same. IsMadeAgain rules n c.args.store.now.entries c.args.event.now same c.is_made_again.new.store.entries) in
    subst (P c.args.snapshot.now.rules) (sym (first-of c)) (subst (λ rules. P rules (c.snapshot.inside.first + length c.args.past.now)) c.rules.ensures.value c.is_made_again.ensures.again)

pub returns-clause-right : goal.returns-clause-right
returns-clause-right c =
    let snapshot : Snapshot = c.args.snapshot.now in
    let past : List Event = reverse c.args.past.now in
    IfOk-weaker c.is_made_again.result
    (λ same. IsMadeAgain snapshot.rules (number_after snapshot past) c.args.store.now.entries c.args.event.now same c.is_made_again.new.store.entries)
    (λ same. same ≡ true → Leaves snapshot (c.args.event.now ∷ past) c.is_made_again.new.store.entries)
    (λ same again. same_leaves snapshot past c.args.store.now.entries c.args.event.now same c.is_made_again.new.store.entries c.requires.leaves (below c) (timely c) again) (again c)

pub returns-clause-wrong : goal.returns-clause-wrong
returns-clause-wrong c =
    let snapshot : Snapshot = c.args.snapshot.now in
    let past : List Event = reverse c.args.past.now in
    IfOk-weaker c.is_made_again.result
    (λ same. IsMadeAgain snapshot.rules (number_after snapshot past) c.args.store.now.entries c.args.event.now same c.is_made_again.new.store.entries)
    (λ same. same ≡ false → IsRight snapshot past c.args.event.now → ⊥)
    (λ same again. other_wrong snapshot past c.args.store.now.entries c.args.event.now same c.is_made_again.new.store.entries c.requires.leaves (below c) (timely c) again) (again c)
