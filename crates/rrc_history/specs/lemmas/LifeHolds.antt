-- SPDX-License-Identifier: MIT
-- The laws of life hold: an entry was stored, and its answers keep to its time.
use Rattle.std.specs.Prelude.{◌≡◌, ℕ, ◌+◌, ◌-◌, ◌<◌, ◌⊎◌, List, [], ◌∷◌, Bool, true, false, ◌&&◌, nat_lt, if◌then◌else◌, Option, Some, None}
use Rattle.std.proofs.Common.{refl, subst, arith, inl, inr}
use Rattle.std.proofs.lemmas.Bool.Decides.{nat_tests}
use Rattle.rrc_name.specs.Key.{KeyOf, key_eq}
use Rattle.rrc_name.specs.declared.slot.Slot.{Slot}
use Rattle.rrc_name.specs.declared.slot.Slot.TheVariants.{Set, Nx, Failed}
use Rattle.rrc_history.specs.declared.body.Body.{Body}
use Rattle.rrc_history.specs.declared.body.Body.TheVariants.{Positive, Negative, Failure}
use Rattle.rrc_history.specs.declared.ask.Purpose.{Purpose}
use Rattle.rrc_history.specs.declared.ask.Purpose.TheVariants.{Any, Answer}
use Rattle.rrc_history.specs.declared.event.Event.{Event}
use Rattle.rrc_history.specs.declared.event.Event.TheVariants.{Offered, Asked, Swept}
use Rattle.rrc_history.specs.declared.event.Outcome.TheVariants.{Kept, Cleared, LessTrusted}
use Rattle.rrc_history.specs.declared.event.RrSet.{RrSet}
use Rattle.rrc_history.specs.declared.event.Soa.{Soa}
use Rattle.rrc_history.specs.declared.event.Reply.{Reply}
use Rattle.rrc_history.specs.declared.event.Reply.TheVariants.{Fresh, Stale, NoData, NxDomain}
use Rattle.rrc_history.specs.declared.snapshot.Entry.{Entry}
use Rattle.rrc_history.specs.declared.snapshot.Snapshot.{Snapshot}
use Rattle.rrc_history.specs.Asked.{AskOf}
use Rattle.rrc_history.specs.Fits.{OfferOf}
use Rattle.rrc_history.specs.Lives.{ttl_of, age, is_unexpired}
use Rattle.rrc_history.specs.Judged.{reply_of_body, reply_of_entry, reply_of_living_set, reply_of_living_soa, negative_reply, may_be_stale, may_serve, STALE_TTL}
use Rattle.rrc_history.specs.Past.{held, held_after_offer, is_among, is_evicted, entry_at, entry_of, number_after}
use Rattle.rrc_history.specs.lemmas.EntryLaws.{entry_at-key}
use Rattle.rrc_history.specs.Laws.{IsStored, IsSet, IsWithinLife, IsWithinLimit, IsInTime, IsTrustedFor}

-- ---- stored

-- after a kept offer a key holds what the offer stored, or what it held before
kept_or_before : (number : ℕ) (offer : OfferOf) (evicted : Option KeyOf) (key : KeyOf) (before : Option Entry) (entry : Entry)
    → held_after_offer number offer Kept evicted key before ≡ Some entry → (entry ≡ entry_of offer number) ⊎ (before ≡ Some entry)
kept_or_before number offer evicted key before entry h = by (key_eq key offer.key) refl (is_evicted key evicted) refl
  where
    by : (same : Bool) → key_eq key offer.key ≡ same → (out : Bool) → is_evicted key evicted ≡ out → (entry ≡ entry_of offer number) ⊎ (before ≡ Some entry)
    by true at out gone = let is : Some (entry_of offer number) ≡ Some entry = rw at at h in inl (cc)
    by false at true gone = let bad : None ≡ Some entry = rw (at, gone) at h in absurd cc
    by false at false gone = inr (rw (at, gone) at h)

-- a key that isn't out holds what it held
before_out : (out : Bool) (before : Option Entry) (entry : Entry) → (if out then None else before) ≡ Some entry → before ≡ Some entry
before_out true before entry h = absurd cc
before_out false before entry h = h

-- what a key holds was stored by a kept offer, or stands in the snapshot
pub held-is_stored : (snapshot : Snapshot) (past : List Event) (key : KeyOf) (entry : Entry) → held snapshot past key ≡ Some entry → IsStored snapshot past entry
unfolding held
held-is_stored snapshot [] key entry h = subst (λ (k : KeyOf). entry_at k snapshot.entries ≡ Some entry) (entry_at-key key snapshot.entries entry h) h
held-is_stored snapshot (Offered Kept tag offer evicted ∷ past) key entry h =
    elim (kept_or_before (number_after snapshot past) offer evicted key (held snapshot past key) entry h)
    [ inl stored ↦ inl stored | inr was ↦ inr (held-is_stored snapshot past key entry was) ]
held-is_stored snapshot (Offered Cleared tag offer evicted ∷ past) key entry h =
    held-is_stored snapshot past key entry (before_out (key_eq key offer.key) (held snapshot past key) entry h)
held-is_stored snapshot (Offered LessTrusted tag offer evicted ∷ past) key entry h = held-is_stored snapshot past key entry h
held-is_stored snapshot (Asked tag ask reply ∷ past) key entry h = held-is_stored snapshot past key entry h
held-is_stored snapshot (Swept tag moment gone ∷ past) key entry h =
    held-is_stored snapshot past key entry (before_out (is_among key gone) (held snapshot past key) entry h)

-- ---- in time

-- what is left of an entry that lives
within_life : (entry : Entry) (at : ℕ) → is_unexpired entry at ≡ true → IsWithinLife entry at (ttl_of entry.body - age entry at)
within_life entry at lives =
    let young : at - entry.moment < ttl_of entry.body = grind (arith, nat_tests) in
    record { some = omega arith; most = omega arith; ends = omega arith }

-- an expired entry that is within the stale limit
within_limit : (stale : ℕ) (entry : Entry) (at : ℕ) → IsSet entry.body → is_unexpired entry at ≡ false → nat_lt (age entry at) (ttl_of entry.body + stale) ≡ true
    → IsWithinLimit stale entry at STALE_TTL
within_limit stale entry at set expired within =
    let young : at - entry.moment < ttl_of entry.body + stale = grind (arith, nat_tests) in
    record { set = set; expired = expired; ends = omega arith; left_is = refl }

-- of two tests that hold, the second does
second_too : (a b : Bool) → (a && b) ≡ true → b ≡ true
second_too true b h = h
second_too false b h = absurd cc

-- the answer of a set
set_in_time : (stale : ℕ) (entry : Entry) (ask : AskOf) (set : RrSet) (may : Bool) (reply : Reply) → IsSet entry.body
    → reply_of_living_set stale set (ttl_of entry.body) (age entry ask.moment) may ≡ Some reply → IsInTime stale entry ask reply
set_in_time stale entry ask set may reply is_set h = by (is_unexpired entry ask.moment) refl (may && nat_lt (age entry ask.moment) (ttl_of entry.body + stale)) refl
  where
    by : (lives : Bool) → is_unexpired entry ask.moment ≡ lives → (stands : Bool) → (may && nat_lt (age entry ask.moment) (ttl_of entry.body + stale)) ≡ stands
        → IsInTime stale entry ask reply
    by true at stands within =
        let is : Some (Fresh set (ttl_of entry.body - age entry ask.moment)) ≡ Some reply = rw at at h in
        let same : Fresh set (ttl_of entry.body - age entry ask.moment) ≡ reply = cc in
        subst (λ (r : Reply). IsInTime stale entry ask r) same (within_life entry ask.moment at)
    by false at true within =
        let is : Some (Stale set STALE_TTL) ≡ Some reply = rw (at, within) at h in
        let same : Stale set STALE_TTL ≡ reply = cc in
        subst (λ (r : Reply). IsInTime stale entry ask r) same
        (within_limit stale entry ask.moment is_set at (second_too may (nat_lt (age entry ask.moment) (ttl_of entry.body + stale)) within))
    by false at false within = let bad : None ≡ Some reply = rw (at, within) at h in absurd cc

-- a negative answer of what is left
negative_in_time : (stale : ℕ) (entry : Entry) (ask : AskOf) (slot : Slot) (soa : Soa) (left : ℕ) (reply : Reply) → IsWithinLife entry ask.moment left
    → negative_reply slot soa left ≡ Some reply → IsInTime stale entry ask reply
negative_in_time stale entry ask (Set rtype) soa left reply life h = let same : NoData soa left ≡ reply = cc in subst (λ (r : Reply). IsInTime stale entry ask r) same life
negative_in_time stale entry ask Nx soa left reply life h = let same : NxDomain soa left ≡ reply = cc in subst (λ (r : Reply). IsInTime stale entry ask r) same life
negative_in_time stale entry ask (Failed rtype) soa left reply life h = absurd cc

-- the answer of a negative entry
soa_in_time : (stale : ℕ) (entry : Entry) (ask : AskOf) (slot : Slot) (soa : Soa) (reply : Reply)
    → reply_of_living_soa slot soa (ttl_of entry.body) (age entry ask.moment) ≡ Some reply → IsInTime stale entry ask reply
soa_in_time stale entry ask slot soa reply h = by (is_unexpired entry ask.moment) refl
  where
    by : (lives : Bool) → is_unexpired entry ask.moment ≡ lives → IsInTime stale entry ask reply
    by true at = negative_in_time stale entry ask slot soa (ttl_of entry.body - age entry ask.moment) reply (within_life entry ask.moment at) (rw at at h)
    by false at = let bad : None ≡ Some reply = rw at at h in absurd cc

-- the entry of these fields
abbrev entry_with : KeyOf → Body → ℕ → ℕ → Entry
entry_with key body moment number = record { key = key; body = body; moment = moment; number = number }

-- the answer of an entry, by its body
body_in_time : (stale : ℕ) (key : KeyOf) (body : Body) (moment number : ℕ) (ask : AskOf) (failure : Option Entry) (reply : Reply)
    → reply_of_body stale (entry_with key body moment number) body ask failure ≡ Some reply → IsInTime stale (entry_with key body moment number) ask reply
body_in_time stale key (Positive trust ttl owner items) moment number ask failure reply h =
    set_in_time stale (entry_with key (Positive trust ttl owner items) moment number) ask (record { owner = owner; items = items }) (may_be_stale ask.mode failure) reply tt h
body_in_time stale key (Negative trust ttl owner soa) moment number ask failure reply h =
    soa_in_time stale (entry_with key (Negative trust ttl owner soa) moment number) ask key.slot (record { owner = owner; octets = soa }) reply h
body_in_time stale key (Failure ttl) moment number ask failure reply h = absurd cc

-- the answer of an entry keeps to its time
pub reply_of_entry-in_time : (stale : ℕ) (entry : Entry) (ask : AskOf) (failure : Option Entry) (reply : Reply)
    → reply_of_entry stale entry ask failure ≡ Some reply → IsInTime stale entry ask reply
reply_of_entry-in_time stale entry ask failure reply h = body_in_time stale entry.key entry.body entry.moment entry.number ask failure reply h

-- what may serve is trusted for it
pub may_serve-is_trusted : (purpose : Purpose) (body : Body) → may_serve purpose body ≡ true → IsTrustedFor purpose body
may_serve-is_trusted Any body h = tt
may_serve-is_trusted Answer body h = grind (arith, nat_tests)
