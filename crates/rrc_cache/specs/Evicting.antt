-- SPDX-License-Identifier: MIT
-- The key touched least recently goes, by events that there are for it.
use Rattle.std.specs.Prelude.{◌≡◌, ℕ, ◌+◌, ◌-◌, ◌^◌, ◌<◌, ◌≤◌, List, [], ◌∷◌, ◌++◌, length, take, Bool, true, false, Some, None, Result, Ok, Err}
use Rattle.std.specs.List.{AllByRecursion}
use Rattle.rrc_history.specs.declared.body.Body.{Body}
use Rattle.rrc_history.specs.declared.body.Body.TheVariants.{Positive, Negative, Failure}
use Rattle.rrc_history.specs.declared.body.Trust.TheVariants.{AuthoritativeAnswer}
use Rattle.rrc_history.specs.declared.event.Event.{Event}
use Rattle.rrc_history.specs.declared.event.Event.TheVariants.{Offered, Swept}
use Rattle.rrc_history.specs.declared.event.Outcome.TheVariants.{Kept, Cleared}
use Rattle.rrc_history.specs.declared.event.Tag.{Tag}
use Rattle.rrc_history.specs.declared.snapshot.Entry.{Entry}
use Rattle.rrc_history.specs.Fits.{OfferOf}
use Rattle.rrc_history.specs.Lives.{is_fully_expired, LAST_MOMENT}
use Rattle.rrc_history.specs.Past.{AreContents}
use Rattle.rrc_cache.specs.Lasts.{IsLast}
use Rattle.rrc_cache.specs.Part.{PartOf, past_of, next_number}
use Rattle.rrc_cache.specs.declared.refusal.Refusal.{Refusal}
use Rattle.rrc_cache.specs.declared.refusal.Refusal.TheVariants.{HistoryFull, MomentTooLarge, Memory}

-- whether a body is data
abbrev pub is_data : Body → Bool
is_data (Positive trust ttl owner items) = true
is_data (Negative trust ttl soa_owner soa) = true
is_data (Failure ttl) = false

-- what a key holds, with a TTL of 0 (RFC 1035 3.2.1), and data of the highest rank: nothing outranks
-- them, so they clear the key (RFC 2181 5.4.1)
abbrev pub evicting_body : Body → Body
evicting_body (Positive trust ttl owner items) = Positive AuthoritativeAnswer 0 owner items
evicting_body (Negative trust ttl soa_owner soa) = Negative AuthoritativeAnswer 0 soa_owner soa
evicting_body (Failure ttl) = Failure 0

abbrev pub evicting_offer : Entry → ℕ → OfferOf
evicting_offer entry moment = record { key = entry.key; body = evicting_body entry.body; moment = moment }

-- the events that evict a key: data are cleared; a failure, which nothing clears, gives way to one
-- that lasts no second, which a sweep at moment 0 removes
abbrev pub evictions_by : Body → Tag → Entry → ℕ → List Event
evictions_by (Positive trust ttl owner items) tag entry moment = Offered Cleared tag (evicting_offer entry moment) None ∷ []
evictions_by (Negative trust ttl soa_owner soa) tag entry moment = Offered Cleared tag (evicting_offer entry moment) None ∷ []
evictions_by (Failure ttl) tag entry moment = Offered Kept tag (evicting_offer entry moment) None ∷ Swept tag 0 (entry.key ∷ []) ∷ []

-- the keys of a part hold these entries
abbrev pub Has : PartOf → List Entry → Type 0
Has part contents = AreContents part.snapshot (past_of part) contents

-- the entry is not fully expired at moment 0
abbrev pub Lasts : ℕ → Entry → Type 0
Lasts stale entry = is_fully_expired stale entry 0 ≡ false

-- no key of a part holds what has no time
abbrev pub AreLasting : PartOf → Type 0
AreLasting part = (contents : List Entry) → Has part contents → AllByRecursion (Lasts part.snapshot.rules.stale) contents

-- the key touched least recently went, and every other one holds what it held
pub record EvictsKey (tag : Tag) (moment : ℕ) (old new : PartOf) : Type 0 where
  pub number : new.number ≡ old.number
  pub snapshot : new.snapshot ≡ old.snapshot
  pub entry : Entry
  pub last : IsLast old (Some entry)
  pub written : new.events ≡ old.events ++ evictions_by entry.body tag entry moment
  pub some : (contents : List Entry) → Has old contents → 1 ≤ length contents
  pub left : (contents : List Entry) → Has old contents → Has new (take (length contents - 1) contents)

-- there was no key
pub record EvictsNone (old new : PartOf) : Type 0 where
  pub same : new ≡ old
  pub none : (contents : List Entry) → Has old contents → contents ≡ []

-- by whether a key went
abbrev pub EvictsBy : Bool → Tag → ℕ → PartOf → PartOf → Type 0
EvictsBy true tag moment old new = EvictsKey tag moment old new
EvictsBy false tag moment old new = EvictsNone old new

-- when a key may be evicted: the numbers go on to two events; no memory is asked for
abbrev pub IsEvictDue : {A : Type 0} → PartOf → ℕ → Result A Refusal → Type 0
IsEvictDue part moment (Ok went) = (next_number part + 1 < 2 ^ 62) × (moment ≤ LAST_MOMENT)
IsEvictDue part moment (Err HistoryFull) = 2 ^ 62 ≤ next_number part + 1
IsEvictDue part moment (Err MomentTooLarge) = (next_number part + 1 < 2 ^ 62) × (LAST_MOMENT < moment)
IsEvictDue part moment (Err Memory) = ⊥
