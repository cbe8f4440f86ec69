-- SPDX-License-Identifier: MIT
-- What a call wrote is right, and leaves what it left; and what is right it would have written.
use Rattle.std.proofs.Common.{◌≡◌, ◌^◌, ◌<◌, ◌≤◌, List, ◌∷◌, Bool, true, false, sym, ap, subst, ◌∙◌, arith}
use Rattle.rrc_history.specs.declared.event.Event.{Event}
use Rattle.rrc_history.specs.declared.event.Event.TheVariants.{Offered, Asked, Swept}
use Rattle.rrc_history.specs.declared.snapshot.Entry.{Entry}
use Rattle.rrc_history.specs.declared.snapshot.Snapshot.{Snapshot}
use Rattle.rrc_history.specs.Asked.{AskOf}
use Rattle.rrc_history.specs.Fits.{OfferOf}
use Rattle.rrc_history.specs.Lives.{LAST_MOMENT}
use Rattle.rrc_history.specs.Past.{number_after, moment_of}
use Rattle.rrc_history.specs.Right.{IsRight}
use Rattle.rrc_history.specs.WholeLaws.{IsSameCall}
use Rattle.rrc_history.specs.lemmas.OneHistory.{one_event}
use Rattle.rrc_cache.specs.Calls.{Leaves, Writes, IsMadeAgain}
use Rattle.rrc_cache.proofs.Leaving.{offer_leaves}
use Rattle.rrc_cache.proofs.Answering.{ask_leaves}
use Rattle.rrc_cache.proofs.Sweeping.{sweep_leaves}

-- what a call wrote is right after a legal past, and leaves what the call left
pub writes_leaves : (snapshot : Snapshot) (past : List Event) (entries : List Entry) (event : Event) (kept : List Entry)
    → Leaves snapshot past entries → number_after snapshot past < 2 ^ 62 → moment_of event ≤ LAST_MOMENT
    → Writes snapshot.rules (number_after snapshot past) entries event kept → Leaves snapshot (event ∷ past) kept
writes_leaves snapshot past entries (Offered outcome tag offer evicted) kept leaves below timely writes =
    offer_leaves snapshot past entries tag offer outcome evicted kept leaves below timely writes.0 writes.1
writes_leaves snapshot past entries (Asked tag ask reply) kept leaves below timely writes =
    ask_leaves snapshot past entries tag ask reply writes.0 kept leaves below timely writes.1 writes.2
writes_leaves snapshot past entries (Swept tag moment gone) kept leaves below timely writes =
    sweep_leaves snapshot past entries tag moment gone kept leaves below timely writes.0 writes.1

-- ---- calls made again

same_moment : (made event : Event) → IsSameCall made event → moment_of made ≡ moment_of event
same_moment (Offered became tag offer went) (Offered outcome tag' other evicted) call = ap (λ (o : OfferOf). o.moment) call.1
same_moment (Asked tag ask answer) (Asked tag' other reply) call = ap (λ (a : AskOf). a.moment) call.1
same_moment (Swept tag moment dead) (Swept tag' moment' gone) call = call.1
same_moment (Offered became tag offer went) (Asked tag' other reply) call = absurd call
same_moment (Offered became tag offer went) (Swept tag' moment' gone) call = absurd call
same_moment (Asked tag ask answer) (Offered outcome tag' other evicted) call = absurd call
same_moment (Asked tag ask answer) (Swept tag' moment' gone) call = absurd call
same_moment (Swept tag moment dead) (Offered outcome tag' other evicted) call = absurd call
same_moment (Swept tag moment dead) (Asked tag' other reply) call = absurd call

made_leaves : (snapshot : Snapshot) (past : List Event) (entries : List Entry) (event : Event) (same : Bool) (kept : List Entry)
    → Leaves snapshot past entries → number_after snapshot past < 2 ^ 62 → moment_of event ≤ LAST_MOMENT
    → (again : IsMadeAgain snapshot.rules (number_after snapshot past) entries event same kept) → Leaves snapshot (again.made ∷ past) kept
made_leaves snapshot past entries event same kept leaves below timely again =
    writes_leaves snapshot past entries again.made kept leaves below
    (let is : moment_of again.made ≡ moment_of event = same_moment again.made event again.call in omega (arith, is, timely)) again.writes

-- where it wrote the event, the event is right
pub same_leaves : (snapshot : Snapshot) (past : List Event) (entries : List Entry) (event : Event) (same : Bool) (kept : List Entry)
    → Leaves snapshot past entries → number_after snapshot past < 2 ^ 62 → moment_of event ≤ LAST_MOMENT
    → IsMadeAgain snapshot.rules (number_after snapshot past) entries event same kept → same ≡ true → Leaves snapshot (event ∷ past) kept
same_leaves snapshot past entries event same kept leaves below timely again is =
    subst (λ e. Leaves snapshot (e ∷ past) kept) (again.told.0 is) (made_leaves snapshot past entries event same kept leaves below timely again)

-- where it wrote another, the event is not right, since what is right is right in one way
pub other_wrong : (snapshot : Snapshot) (past : List Event) (entries : List Entry) (event : Event) (same : Bool) (kept : List Entry)
    → Leaves snapshot past entries → number_after snapshot past < 2 ^ 62 → moment_of event ≤ LAST_MOMENT
    → IsMadeAgain snapshot.rules (number_after snapshot past) entries event same kept → same ≡ false → IsRight snapshot past event → ⊥
other_wrong snapshot past entries event same kept leaves below timely again is right =
    let made : IsRight snapshot past again.made = (made_leaves snapshot past entries event same kept leaves below timely again).legal.0 in
    let one : again.made ≡ event = one_event snapshot past again.made event made.right right.right again.call in
    let both : false ≡ true = sym is ∙ again.told.1 one in
    absurd cc

-- an event that is right has its moment in time
pub right_timely : (snapshot : Snapshot) (past : List Event) (event : Event) → IsRight snapshot past event → moment_of event ≤ LAST_MOMENT
right_timely snapshot past (Offered outcome tag offer evicted) right = right.right.timely
right_timely snapshot past (Asked tag ask reply) right = right.right.timely
right_timely snapshot past (Swept tag moment gone) right = right.right.timely
