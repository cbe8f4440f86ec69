-- SPDX-License-Identifier: MIT
-- The spans of a history are right.
use Rattle.std.specs.Prelude.{◌≡◌, ◌⊎◌, ℕ, ◌+◌, ◌-◌, ◌<◌, ◌≤◌, List, [], ◌∷◌, Bool, true, false, Option, Some, None, nat_lt, nat_le, if◌then◌else◌}
use Rattle.std.specs.Option.{option_map, option_or}
use Rattle.std.proofs.Common.{refl, ap, subst, ◌∙◌, arith, inl, inr}
use Rattle.std.proofs.lemmas.Bool.Decides.{nat_tests}
use Rattle.rrc_name.specs.Key.{KeyOf, key_eq}
use Rattle.rrc_name.specs.lemmas.KeyLaws.{key_eq-laws}
use Rattle.rrc_history.specs.declared.event.Event.{Event}
use Rattle.rrc_history.specs.declared.event.Event.TheVariants.{Offered, Asked, Swept as SweptKeys}
use Rattle.rrc_history.specs.declared.event.Outcome.TheVariants.{Kept, Cleared as ClearedKey, LessTrusted}
use Rattle.rrc_history.specs.declared.event.Tag.{Tag}
use Rattle.rrc_history.specs.declared.snapshot.Entry.{Entry}
use Rattle.rrc_history.specs.declared.snapshot.Snapshot.{Snapshot}
use Rattle.rrc_history.specs.Fits.{OfferOf}
use Rattle.rrc_history.specs.Lives.{ttl_of, span}
use Rattle.rrc_history.specs.Past.{held, held_after_offer, number_after, entry_of, is_among, is_evicted}
use Rattle.rrc_page.specs.declared.spans.Loss.{Loss}
use Rattle.rrc_page.specs.declared.spans.Loss.TheVariants.{Replaced, Cleared, Evicted, Swept}
use Rattle.rrc_page.specs.Spans.{Holds, Takes, IsTaken, IsTakenBy, Ends, IsSpan, AreSpans, loss_by_kept, loss_by, ending_by, ending_in, span_of, spans_from, SpansAreRight}

-- ---- events that take nothing

out_stays : (out : Bool) (loss : Loss) (before : Option Entry) → (if out then Some loss else None) ≡ None → (if out then None else before) ≡ before
out_stays true loss before none = absurd cc
out_stays false loss before none = refl

kept_stays : (number : ℕ) (offer : OfferOf) (evicted : Option KeyOf) (key : KeyOf) (before : Option Entry) → loss_by_kept key offer.key evicted ≡ None
    → held_after_offer number offer Kept evicted key before ≡ before
kept_stays number offer evicted key before none = by (key_eq key offer.key) refl (is_evicted key evicted) refl
  where
    by : (same : Bool) → key_eq key offer.key ≡ same → (out : Bool) → is_evicted key evicted ≡ out → held_after_offer number offer Kept evicted key before ≡ before
    by true at out gone = let bad : Some Replaced ≡ None = rw at at none in absurd cc
    by false at true gone = let bad : Some Evicted ≡ None = rw (at, gone) at none in absurd cc
    by false at false gone = rw (at, gone) refl

-- a key from which an event takes nothing holds what it held
stays : (snapshot : Snapshot) (past : List Event) (event : Event) (entry : Entry) → loss_by entry.key event ≡ None → Holds snapshot past entry
    → Holds snapshot (event ∷ past) entry
unfolding held
stays snapshot past (Offered Kept tag offer evicted) entry none holds =
    kept_stays (number_after snapshot past) offer evicted entry.key (held snapshot past entry.key) none ∙ holds
stays snapshot past (Offered ClearedKey tag offer evicted) entry none holds =
    out_stays (key_eq entry.key offer.key) Cleared (held snapshot past entry.key) none ∙ holds
stays snapshot past (Offered LessTrusted tag offer evicted) entry none holds = holds
stays snapshot past (Asked tag ask reply) entry none holds = holds
stays snapshot past (SweptKeys tag moment gone) entry none holds =
    out_stays (is_among entry.key gone) Swept (held snapshot past entry.key) none ∙ holds

-- ---- events that take something

out_takes : (out : Bool) (word loss : Loss) → (if out then Some word else None) ≡ Some loss → (out ≡ true) × (word ≡ loss)
out_takes true word loss some = (refl, cc)
out_takes false word loss some = absurd cc

-- a key that is out holds nothing
out_gone : (out : Bool) (before : Option Entry) (entry : Entry) → out ≡ true → (if out then None else before) ≡ Some entry → ⊥
out_gone true before entry is some = absurd cc
out_gone false before entry is some = absurd cc

kept_takes : (tag : Tag) (offer : OfferOf) (evicted : Option KeyOf) (key : KeyOf) (loss : Loss) → loss_by_kept key offer.key evicted ≡ Some loss
    → Takes loss key (Offered Kept tag offer evicted)
kept_takes tag offer evicted key loss some = by (key_eq key offer.key) refl (is_evicted key evicted) refl
  where
    by : (same : Bool) → key_eq key offer.key ≡ same → (out : Bool) → is_evicted key evicted ≡ out → Takes loss key (Offered Kept tag offer evicted)
    by true at out gone =
        let is : Some Replaced ≡ Some loss = rw at at some in
        let same : Replaced ≡ loss = cc in
        subst (λ l. Takes l key (Offered Kept tag offer evicted)) same at
    by false at true gone =
        let is : Some Evicted ≡ Some loss = rw (at, gone) at some in
        let same : Evicted ≡ loss = cc in
        subst (λ l. Takes l key (Offered Kept tag offer evicted)) same (at, gone)
    by false at false gone = let bad : None ≡ Some loss = rw (at, gone) at some in absurd cc

kept_gone : (number : ℕ) (offer : OfferOf) (evicted : Option KeyOf) (before : Option Entry) (entry : Entry) (loss : Loss) → entry.number < number
    → loss_by_kept entry.key offer.key evicted ≡ Some loss → held_after_offer number offer Kept evicted entry.key before ≡ Some entry → ⊥
kept_gone number offer evicted before entry loss below some holds = by (key_eq entry.key offer.key) refl (is_evicted entry.key evicted) refl
  where
    by : (same : Bool) → key_eq entry.key offer.key ≡ same → (out : Bool) → is_evicted entry.key evicted ≡ out → ⊥
    by true at out gone =
        let is : Some (entry_of offer number) ≡ Some entry = rw at at holds in
        let same : entry_of offer number ≡ entry = cc in
        let numbers : number ≡ entry.number = ap (λ (e : Entry). e.number) same in
        omega (arith, numbers, below)
    by false at true gone = let bad : None ≡ Some entry = rw (at, gone) at holds in absurd cc
    by false at false gone = let bad : None ≡ Some loss = rw (at, gone) at some in absurd cc

takes : (event : Event) (key : KeyOf) (loss : Loss) → loss_by key event ≡ Some loss → Takes loss key event
takes (Offered Kept tag offer evicted) key loss some = kept_takes tag offer evicted key loss some
takes (Offered ClearedKey tag offer evicted) key loss some =
    let (out, same) = out_takes (key_eq key offer.key) Cleared loss some in
    subst (λ l. Takes l key (Offered ClearedKey tag offer evicted)) same out
takes (Offered LessTrusted tag offer evicted) key loss some = absurd cc
takes (Asked tag ask reply) key loss some = absurd cc
takes (SweptKeys tag moment gone) key loss some =
    let (out, same) = out_takes (is_among key gone) Swept loss some in
    subst (λ l. Takes l key (SweptKeys tag moment gone)) same out

-- a key from which an event takes an entry of before holds it no more
gone : (snapshot : Snapshot) (past : List Event) (event : Event) (entry : Entry) (loss : Loss) → entry.number < number_after snapshot past
    → loss_by entry.key event ≡ Some loss → Holds snapshot (event ∷ past) entry → ⊥
unfolding held
gone snapshot past (Offered Kept tag offer evicted) entry loss below some holds =
    kept_gone (number_after snapshot past) offer evicted (held snapshot past entry.key) entry loss below some holds
gone snapshot past (Offered ClearedKey tag offer evicted) entry loss below some holds =
    out_gone (key_eq entry.key offer.key) (held snapshot past entry.key) entry (out_takes (key_eq entry.key offer.key) Cleared loss some).0 holds
gone snapshot past (Offered LessTrusted tag offer evicted) entry loss below some holds = absurd cc
gone snapshot past (Asked tag ask reply) entry loss below some holds = absurd cc
gone snapshot past (SweptKeys tag moment keys) entry loss below some holds =
    out_gone (is_among entry.key keys) (held snapshot past entry.key) entry (out_takes (is_among entry.key keys) Swept loss some).0 holds

-- ---- how an entry ends

ends : (snapshot : Snapshot) (past behind : List Event) (entry : Entry) (number : ℕ) → number ≡ number_after snapshot past → entry.number < number
    → Holds snapshot past entry → Ends snapshot past behind entry (ending_in entry.key number behind)
ends snapshot past [] entry number is below holds = refl
ends snapshot past (event ∷ behind) entry number is below holds =
    by (loss_by entry.key event) refl (λ still. ends snapshot (event ∷ past) behind entry (number + 1) (omega (arith, is)) (omega (arith, below)) still)
  where
    by : (loss : Option Loss) → loss_by entry.key event ≡ loss
        → (Holds snapshot (event ∷ past) entry → Ends snapshot (event ∷ past) behind entry (ending_in entry.key (number + 1) behind))
        → IsTakenBy snapshot past event entry (option_or (option_map (ending_by number event) loss) (ending_in entry.key (number + 1) behind))
        ⊎ (Holds snapshot (event ∷ past) entry
        × Ends snapshot (event ∷ past) behind entry (option_or (option_map (ending_by number event) loss) (ending_in entry.key (number + 1) behind)))
    by None none later = let still = stays snapshot past event entry none holds in inr (still, later still)
    by (Some loss) some later =
        inl
        (record {
          gone = gone snapshot past event entry loss (omega (arith, is, below)) some;
          takes = takes event entry.key loss some;
          number = is;
          tag = refl;
          moment = refl;
        })

-- ---- spans

-- an age is below a time to live exactly before the moment that both make
before : (start ttl moment : ℕ) → start ≤ moment → nat_lt (moment - start) ttl ≡ nat_lt moment (start + ttl)
before start ttl moment since = grind (arith, nat_tests)

from : (start span moment : ℕ) → start ≤ moment → nat_le span (moment - start) ≡ nat_le (start + span) moment
from start span moment since = grind (arith, nat_tests)

-- a kept offer is held under its key
holds_kept : (snapshot : Snapshot) (past : List Event) (tag : Tag) (offer : OfferOf) (evicted : Option KeyOf)
    → Holds snapshot (Offered Kept tag offer evicted ∷ past) (entry_of offer (number_after snapshot past))
unfolding held
holds_kept snapshot past tag offer evicted = rw (key_eq-laws.refl offer.key) refl

span_right : (snapshot : Snapshot) (past : List Event) (tag : Tag) (offer : OfferOf) (evicted : Option KeyOf) (behind : List Event) (number : ℕ)
    → number_after snapshot past ≡ number → IsSpan snapshot past (Offered Kept tag offer evicted) behind (span_of snapshot.rules.stale number tag offer behind)
span_right snapshot past tag offer evicted behind number is =
    subst (λ n. IsSpan snapshot past (Offered Kept tag offer evicted) behind (span_of snapshot.rules.stale n tag offer behind)) is
    (let entry = entry_of offer (number_after snapshot past) in
    let stored = holds_kept snapshot past tag offer evicted in
    record {
      stored = stored;
      number = refl;
      stored_at = refl;
      tag = refl;
      fresh = λ moment since. before offer.moment (ttl_of offer.body) moment since;
      until = λ moment since. from offer.moment (span snapshot.rules.stale offer.body) moment since;
      ends =
          ends snapshot (Offered Kept tag offer evicted ∷ past) behind entry (number_after snapshot past + 1) (omega arith) (omega arith) stored;
    })

are_spans : (snapshot : Snapshot) (past events : List Event) (number : ℕ) → number_after snapshot past ≡ number
    → AreSpans snapshot past events (spans_from snapshot.rules.stale number events)
are_spans snapshot past [] number is = tt
are_spans snapshot past (Offered Kept tag offer evicted ∷ events) number is =
    (span_right snapshot past tag offer evicted events number is, are_spans snapshot (Offered Kept tag offer evicted ∷ past) events (number + 1) (omega (arith, is)))
are_spans snapshot past (Offered ClearedKey tag offer evicted ∷ events) number is =
    are_spans snapshot (Offered ClearedKey tag offer evicted ∷ past) events (number + 1) (omega (arith, is))
are_spans snapshot past (Offered LessTrusted tag offer evicted ∷ events) number is =
    are_spans snapshot (Offered LessTrusted tag offer evicted ∷ past) events (number + 1) (omega (arith, is))
are_spans snapshot past (Asked tag ask reply ∷ events) number is =
    are_spans snapshot (Asked tag ask reply ∷ past) events (number + 1) (omega (arith, is))
are_spans snapshot past (SweptKeys tag moment gone ∷ events) number is =
    are_spans snapshot (SweptKeys tag moment gone ∷ past) events (number + 1) (omega (arith, is))

pub spans_right : SpansAreRight
spans_right whole = are_spans whole.snapshot [] whole.events whole.snapshot.first (omega arith)
