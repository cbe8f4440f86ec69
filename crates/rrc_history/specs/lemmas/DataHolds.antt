-- SPDX-License-Identifier: MIT
-- An answer has the data of its entry, whole.
use Rattle.std.specs.Prelude.{◌≡◌, ℕ, ◌+◌, ◌-◌, List, Bool, true, false, ◌&&◌, nat_lt, Option, Some, None}
use Rattle.std.proofs.Common.{refl, subst}
use Rattle.rrc_name.specs.declared.slot.Slot.{Slot}
use Rattle.rrc_name.specs.declared.slot.Slot.TheVariants.{Set, Nx, Failed}
use Rattle.rrc_history.specs.declared.body.Body.{Body}
use Rattle.rrc_history.specs.declared.body.Body.TheVariants.{Positive, Negative, Failure}
use Rattle.rrc_history.specs.declared.body.Trust.{Trust}
use Rattle.rrc_history.specs.declared.event.RrSet.{RrSet}
use Rattle.rrc_history.specs.declared.event.Soa.{Soa}
use Rattle.rrc_history.specs.declared.event.Reply.{Reply}
use Rattle.rrc_history.specs.declared.event.Reply.TheVariants.{Fresh, Stale, NoData, NxDomain}
use Rattle.rrc_history.specs.declared.snapshot.Entry.{Entry}
use Rattle.rrc_history.specs.Asked.{AskOf}
use Rattle.rrc_history.specs.Lives.{age}
use Rattle.rrc_history.specs.Judged.{reply_of_body, reply_of_entry, reply_of_living_set, reply_of_living_soa, may_be_stale, STALE_TTL}
use Rattle.rrc_history.specs.Laws.{HasDataOf}

-- the answer of a set has the set
set_data : (owner : List ℕ) (items : List (List ℕ)) (trust : Trust) (stale ttl age : ℕ) (may : Bool) (reply : Reply)
    → reply_of_living_set stale (record { owner = owner; items = items }) ttl age may ≡ Some reply → HasDataOf (Positive trust ttl owner items) reply
set_data owner items trust stale ttl age may reply h = by (nat_lt age ttl) refl (may && nat_lt age (ttl + stale)) refl
  where
    by : (lives : Bool) → nat_lt age ttl ≡ lives → (stands : Bool) → (may && nat_lt age (ttl + stale)) ≡ stands → HasDataOf (Positive trust ttl owner items) reply
    by true at stands within =
        let set : RrSet = record { owner = owner; items = items } in
        let is : Some (Fresh set (ttl - age)) ≡ Some reply = rw at at h in
        let same : Fresh set (ttl - age) ≡ reply = cc in
        subst (λ (r : Reply). HasDataOf (Positive trust ttl owner items) r) same refl
    by false at true within =
        let set : RrSet = record { owner = owner; items = items } in
        let is : Some (Stale set STALE_TTL) ≡ Some reply = rw (at, within) at h in
        let same : Stale set STALE_TTL ≡ reply = cc in
        subst (λ (r : Reply). HasDataOf (Positive trust ttl owner items) r) same refl
    by false at false within = let bad : None ≡ Some reply = rw (at, within) at h in absurd cc

-- a negative answer has the record that says so
soa_data : (slot : Slot) (owner octets : List ℕ) (trust : Trust) (ttl age : ℕ) (reply : Reply)
    → reply_of_living_soa slot (record { owner = owner; octets = octets }) ttl age ≡ Some reply → HasDataOf (Negative trust ttl owner octets) reply
soa_data slot owner octets trust ttl age reply h = by slot (nat_lt age ttl) refl h
  where
    by : (s : Slot) (lives : Bool) → nat_lt age ttl ≡ lives → reply_of_living_soa s (record { owner = owner; octets = octets }) ttl age ≡ Some reply
        → HasDataOf (Negative trust ttl owner octets) reply
    by (Set rtype) true at h =
        let soa : Soa = record { owner = owner; octets = octets } in
        let is : Some (NoData soa (ttl - age)) ≡ Some reply = rw at at h in
        let same : NoData soa (ttl - age) ≡ reply = cc in
        subst (λ (r : Reply). HasDataOf (Negative trust ttl owner octets) r) same refl
    by Nx true at h =
        let soa : Soa = record { owner = owner; octets = octets } in
        let is : Some (NxDomain soa (ttl - age)) ≡ Some reply = rw at at h in
        let same : NxDomain soa (ttl - age) ≡ reply = cc in
        subst (λ (r : Reply). HasDataOf (Negative trust ttl owner octets) r) same refl
    by (Failed rtype) true at h = let bad : None ≡ Some reply = rw at at h in absurd cc
    by s false at h = let bad : None ≡ Some reply = rw at at h in absurd cc

-- the answer of an entry has the data of its body
body_data : (stale : ℕ) (entry : Entry) (body : Body) (ask : AskOf) (failure : Option Entry) (reply : Reply)
    → reply_of_body stale entry body ask failure ≡ Some reply → HasDataOf body reply
body_data stale entry (Positive trust ttl owner items) ask failure reply h =
    set_data owner items trust stale ttl (age entry ask.moment) (may_be_stale ask.mode failure) reply h
body_data stale entry (Negative trust ttl owner soa) ask failure reply h = soa_data entry.key.slot owner soa trust ttl (age entry ask.moment) reply h
body_data stale entry (Failure ttl) ask failure reply h = absurd cc

-- the answer of an entry has its data
pub reply_of_entry-has_data : (stale : ℕ) (entry : Entry) (ask : AskOf) (failure : Option Entry) (reply : Reply)
    → reply_of_entry stale entry ask failure ≡ Some reply → HasDataOf entry.body reply
reply_of_entry-has_data stale entry ask failure reply h = body_data stale entry entry.body ask failure reply h
