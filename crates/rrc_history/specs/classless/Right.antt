-- SPDX-License-Identifier: MIT
-- Which histories are legal.
use Rattle.std.specs.Prelude.{◌≡◌, ℕ, ◌^◌, ◌<◌, ◌≤◌, List, [], ◌∷◌, Bool, false, Option, Some, None}
use Rattle.std.specs.List.Sorted.{IsStrictlySortedBy}
use Rattle.rrc_name.specs.classless.Key.{KeyOf, key_order}
use Rattle.rrc_history.specs.declared.classless.Event.{Event}
use Rattle.rrc_history.specs.declared.classless.Event.TheVariants.{Offered, Asked, Swept}
use Rattle.rrc_history.specs.declared.event.Outcome.{Outcome}
use Rattle.rrc_history.specs.declared.event.Outcome.TheVariants.{Kept}
use Rattle.rrc_history.specs.declared.event.Reply.{Reply}
use Rattle.rrc_history.specs.declared.classless.Entry.{Entry}
use Rattle.rrc_history.specs.declared.classless.Snapshot.{Snapshot}
use Rattle.rrc_history.specs.classless.Asked.{AskOf}
use Rattle.rrc_history.specs.classless.Fits.{OfferOf}
use Rattle.rrc_history.specs.classless.Lives.{is_fully_expired}
use Rattle.rrc_history.specs.Lives.{LAST_MOMENT}
use Rattle.rrc_history.specs.classless.Judged.{verdict}
use Rattle.rrc_history.specs.classless.Past.{held, reply_to, number_after, AreContents, victim, is_among}

-- a kept offer of a new key evicts the victim, if there is one; nothing else evicts
abbrev pub evicted_by : ℕ → List Entry → Option Entry → Outcome → Option KeyOf
evicted_by capacity entries None Kept = victim capacity entries
evicted_by capacity entries (Some entry) Kept = None
evicted_by capacity entries held outcome = None

-- an offer became of what it had to become of, and evicted what it had to evict
pub record IsRightOffer (snapshot : Snapshot) (past : List Event) (offer : OfferOf) (outcome : Outcome) (evicted : Option KeyOf) : Type 0 where
  pub timely : offer.moment ≤ LAST_MOMENT
  pub judged : outcome ≡ verdict (held snapshot past offer.key) offer
  pub entries : List Entry
  pub contents : AreContents snapshot past entries
  pub evicts : evicted ≡ evicted_by snapshot.rules.capacity entries (held snapshot past offer.key) outcome

-- an ask got the answer that it had to get
pub record IsRightAsk (snapshot : Snapshot) (past : List Event) (ask : AskOf) (reply : Reply) : Type 0 where
  pub timely : ask.moment ≤ LAST_MOMENT
  pub answered : reply ≡ reply_to snapshot past ask

-- the key holds something that is fully expired
abbrev pub is_swept : ℕ → Option Entry → ℕ → Bool
is_swept stale None moment = false
is_swept stale (Some entry) moment = is_fully_expired stale entry moment

-- a sweep removed just the fully expired keys, and lists them in their order
pub record IsRightSweep (snapshot : Snapshot) (past : List Event) (at : ℕ) (gone : List KeyOf) : Type 0 where
  pub timely : at ≤ LAST_MOMENT
  pub sorted : IsStrictlySortedBy key_order gone
  pub expired : (key : KeyOf) → is_among key gone ≡ is_swept snapshot.rules.stale (held snapshot past key) at

-- an event is right after those before it
abbrev pub IsRightThen : Snapshot → List Event → Event → Type 0
IsRightThen snapshot past (Offered outcome tag offer evicted) = IsRightOffer snapshot past offer outcome evicted
IsRightThen snapshot past (Asked tag ask reply) = IsRightAsk snapshot past ask reply
IsRightThen snapshot past (Swept tag moment gone) = IsRightSweep snapshot past moment gone

-- an event has a number below 2^62, and is right after those before it
pub record IsRight (snapshot : Snapshot) (past : List Event) (event : Event) : Type 0 where
  pub numbered : number_after snapshot past < 2 ^ 62
  pub right : IsRightThen snapshot past event

-- each event is right after those before it; the newest comes first
abbrev pub IsLegal : Snapshot → List Event → Type 0
IsLegal snapshot [] = Unit {0}
IsLegal snapshot (event ∷ past) = IsRight snapshot past event × IsLegal snapshot past
