-- SPDX-License-Identifier: MIT
-- What every legal history keeps: no unexpired data give way to less trusted ones, and no answer outlives its time.
use Rattle.std.specs.Prelude.{◌≡◌, ℕ, ◌+◌, ◌<◌, ◌≤◌, ◌⊎◌, List, [], ◌∷◌, true, false, Some}
use Rattle.rrc_name.specs.Key.{KeyOf, key_eq}
use Rattle.rrc_name.specs.declared.slot.Slot.TheVariants.{Set, Nx}
use Rattle.rrc_history.specs.declared.body.Body.{Body}
use Rattle.rrc_history.specs.declared.body.Body.TheVariants.{Positive, Negative, Failure}
use Rattle.rrc_history.specs.declared.ask.Purpose.{Purpose}
use Rattle.rrc_history.specs.declared.ask.Purpose.TheVariants.{Any, Answer}
use Rattle.rrc_history.specs.declared.event.Event.{Event}
use Rattle.rrc_history.specs.declared.event.Event.TheVariants.{Offered, Asked, Swept}
use Rattle.rrc_history.specs.declared.event.Outcome.{Outcome}
use Rattle.rrc_history.specs.declared.event.Outcome.TheVariants.{Kept, Cleared, LessTrusted}
use Rattle.rrc_history.specs.declared.event.Reply.{Reply}
use Rattle.rrc_history.specs.declared.event.Reply.TheVariants.{Fresh, Stale, NoData, NxDomain, Miss}
use Rattle.rrc_history.specs.declared.snapshot.Entry.{Entry}
use Rattle.rrc_history.specs.declared.snapshot.Snapshot.{Snapshot}
use Rattle.rrc_history.specs.Asked.{AskOf}
use Rattle.rrc_history.specs.Fits.{OfferOf}
use Rattle.rrc_history.specs.Lives.{ttl_of, rank_of, is_unexpired}
use Rattle.rrc_history.specs.Judged.{is_miss, STALE_TTL}
use Rattle.rrc_history.specs.Past.{held, key_at, entry_at, entry_of, number_after, is_among, is_evicted}

-- ---- trust (RFC 2181 5.4.1)

-- the body is data, and no note that asking failed
abbrev pub IsData : Body → Type 0
IsData (Positive trust ttl owner items) = Unit {0}
IsData (Negative trust ttl soa_owner soa) = Unit {0}
IsData (Failure ttl) = ⊥

-- the offer changed what its key holds
abbrev pub IsTaken : Outcome → Type 0
IsTaken Kept = Unit {0}
IsTaken Cleared = Unit {0}
IsTaken LessTrusted = ⊥

-- data that were taken are trusted no less than the unexpired ones that they met
abbrev pub ReplacesNoMoreTrusted : Snapshot → List Event → OfferOf → Outcome → Type 0
ReplacesNoMoreTrusted snapshot past offer outcome =
    IsTaken outcome → IsData offer.body
    → (before : Entry) → held snapshot past offer.key ≡ Some before → is_unexpired before offer.moment ≡ true
    → rank_of before.body ≤ rank_of offer.body

-- an entry for the name and the type of an ask
abbrev pub IsFor : Snapshot → List Event → AskOf → Entry → Type 0
IsFor snapshot past ask entry =
    (held snapshot past (key_at ask (Set ask.rtype)) ≡ Some entry) ⊎ (held snapshot past (key_at ask Nx) ≡ Some entry)

-- an answer is given from an entry only where no earlier one that is still held is unexpired and trusted more
abbrev pub AnswersMostTrusted : Snapshot → List Event → AskOf → Entry → Type 0
AnswersMostTrusted snapshot past ask entry =
    (earlier : Entry) → IsFor snapshot past ask earlier → earlier.number < entry.number → is_unexpired earlier ask.moment ≡ true
    → rank_of earlier.body ≤ rank_of entry.body

-- the event took from the key what it held
abbrev pub Removes : Event → KeyOf → Type 0
Removes (Offered Kept tag offer evicted) key = (key_eq key offer.key ≡ true) ⊎ (is_evicted key evicted ≡ true)
Removes (Offered Cleared tag offer evicted) key = key_eq key offer.key ≡ true
Removes (Offered LessTrusted tag offer evicted) key = ⊥
Removes (Asked tag ask reply) key = ⊥
Removes (Swept tag moment gone) key = is_among key gone ≡ true

-- ---- life (RFC 2181 8, RFC 8767 4)

-- an offer of these events stored the entry, or the snapshot has it
abbrev pub IsStored : Snapshot → List Event → Entry → Type 0
IsStored snapshot [] entry = entry_at entry.key snapshot.entries ≡ Some entry
IsStored snapshot (Offered Kept tag offer evicted ∷ past) entry = (entry ≡ entry_of offer (number_after snapshot past)) ⊎ IsStored snapshot past entry
IsStored snapshot (event ∷ past) entry = IsStored snapshot past entry

-- an answer lives no longer than its entry
pub record IsWithinLife (entry : Entry) (at left : ℕ) : Type 0 where
  pub some : 1 ≤ left
  pub most : left ≤ ttl_of entry.body
  pub ends : at + left ≤ entry.moment + ttl_of entry.body

-- only data of a set are ever stale
abbrev pub IsSet : Body → Type 0
IsSet (Positive trust ttl owner items) = Unit {0}
IsSet (Negative trust ttl soa_owner soa) = ⊥
IsSet (Failure ttl) = ⊥

-- a stale answer is given past its time and within the limit
pub record IsWithinLimit (stale : ℕ) (entry : Entry) (at left : ℕ) : Type 0 where
  pub set : IsSet entry.body
  pub expired : is_unexpired entry at ≡ false
  pub ends : at < entry.moment + ttl_of entry.body + stale
  pub left_is : left ≡ STALE_TTL

-- a reply from an entry keeps to the entry's time
abbrev pub IsInTime : ℕ → Entry → AskOf → Reply → Type 0
IsInTime stale entry ask (Fresh set left) = IsWithinLife entry ask.moment left
IsInTime stale entry ask (Stale set left) = IsWithinLimit stale entry ask.moment left
IsInTime stale entry ask (NoData soa left) = IsWithinLife entry ask.moment left
IsInTime stale entry ask (NxDomain soa left) = IsWithinLife entry ask.moment left
IsInTime stale entry ask (Miss retry) = Unit {0}

-- an answer to a question is from no glue
abbrev pub IsTrustedFor : Purpose → Body → Type 0
IsTrustedFor Any body = Unit {0}
IsTrustedFor Answer body = 2 ≤ rank_of body

-- the data of a reply are those of the body, whole
abbrev pub HasDataOf : Body → Reply → Type 0
HasDataOf (Positive trust ttl owner items) (Fresh set left) = set ≡ record { owner = owner; items = items }
HasDataOf (Positive trust ttl owner items) (Stale set left) = set ≡ record { owner = owner; items = items }
HasDataOf (Negative trust ttl owner soa) (NoData answered left) = answered ≡ record { owner = owner; octets = soa }
HasDataOf (Negative trust ttl owner soa) (NxDomain answered left) = answered ≡ record { owner = owner; octets = soa }
HasDataOf body reply = ⊥

-- what holds of the entry that answers
pub record AnswersRightly (snapshot : Snapshot) (past : List Event) (ask : AskOf) (reply : Reply) (entry : Entry) : Type 0 where
  pub held_for : IsFor snapshot past ask entry
  pub stored : IsStored snapshot past entry
  pub data_of : HasDataOf entry.body reply
  pub trusted : AnswersMostTrusted snapshot past ask entry
  pub in_time : IsInTime snapshot.rules.stale entry ask reply
  pub purpose : IsTrustedFor ask.purpose entry.body

-- every answer is given from an entry, rightly
abbrev pub AnswersFromEntry : Snapshot → List Event → AskOf → Reply → Type 0
AnswersFromEntry snapshot past ask reply = (is_miss reply ≡ true) ⊎ ((entry : Entry) × AnswersRightly snapshot past ask reply entry)

-- an offer replaces nothing that is trusted more, an answer is from the most trusted, within its time
abbrev pub KeepsOrder : Snapshot → List Event → Event → Type 0
KeepsOrder snapshot past (Offered outcome tag offer evicted) = ReplacesNoMoreTrusted snapshot past offer outcome
KeepsOrder snapshot past (Asked tag ask reply) = AnswersFromEntry snapshot past ask reply
KeepsOrder snapshot past (Swept tag moment gone) = Unit {0}

-- a key stops holding its body only by an offer of it, an eviction of it, or a sweep that lists it
abbrev pub StopsHolding : Snapshot → List Event → Event → Type 0
StopsHolding snapshot past event =
    (key : KeyOf) (entry : Entry) → held snapshot past key ≡ Some entry → (held snapshot (event ∷ past) key ≡ Some entry) ⊎ Removes event key

-- the laws of trust and of life, of one event
pub record KeepsLaws (snapshot : Snapshot) (past : List Event) (event : Event) : Type 0 where
  pub order : KeepsOrder snapshot past event
  pub stops : StopsHolding snapshot past event
