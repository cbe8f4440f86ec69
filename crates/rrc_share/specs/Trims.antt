-- SPDX-License-Identifier: MIT
-- Keys go, the one touched least recently first, until a part takes no more octets than a limit.
use Rattle.std.specs.Prelude.{◌≡◌, ℕ, ◌+◌, ◌-◌, ◌^◌, ◌%◌, ◌<◌, ◌≤◌, ◌⊎◌, List, ◌++◌, length, take, Result, Ok, Err}
use Rattle.std.specs.List.{AllByRecursion}
use Rattle.rrc_history.specs.declared.event.Event.{Event}
use Rattle.rrc_history.specs.declared.event.Event.TheVariants.{Offered, Asked, Swept}
use Rattle.rrc_history.specs.declared.event.Tag.{Tag}
use Rattle.rrc_history.specs.declared.snapshot.Entry.{Entry}
use Rattle.rrc_history.specs.Entries.{living}
use Rattle.rrc_history.specs.Lives.{LAST_MOMENT, ttl_of}
use Rattle.rrc_history.specs.Octets.{octets_of}
use Rattle.rrc_history.specs.Past.{AreContents}
use Rattle.rrc_cache.specs.Expiry.{IsAfterLastSweep}
use Rattle.rrc_cache.specs.Part.{PartOf, past_of, next_number}
use Rattle.rrc_cache.specs.declared.refusal.Refusal.{Refusal}
use Rattle.rrc_cache.specs.declared.refusal.Refusal.TheVariants.{HistoryFull, MomentTooLarge, Memory}
use Rattle.rrc_share.specs.Shelf.{ShelfOf, opening_of, history_of}

-- an event that removes what a key held, or that a failure of no time replaced: an offer with a TTL
-- of 0, or a sweep at moment 0
abbrev pub IsEviction : Tag → ℕ → Event → Type 0
IsEviction tag moment (Offered outcome by offer evicted) = (by ≡ tag) × (offer.moment ≡ moment) × (ttl_of offer.body ≡ 0)
IsEviction tag moment (Asked by ask reply) = ⊥
IsEviction tag moment (Swept by at gone) = (by ≡ tag) × (at ≡ 0)

-- the history goes on by such events alone, under the same rules
pub record Evicts (tag : Tag) (moment : ℕ) (old new : ShelfOf) : Type 0 where
  pub opening : opening_of new ≡ opening_of old
  pub rules : new.part.snapshot.rules ≡ old.part.snapshot.rules
  pub events : List Event
  pub written : history_of new ≡ history_of old ++ events
  pub only : AllByRecursion (IsEviction tag moment) events

-- the entries that are not fully expired at moment 0: all that have any time
abbrev pub lasting : ℕ → List Entry → List Entry
lasting stale entries = living stale 0 entries

-- so many entries went from the end, no more than `most`, and each while they took more octets than
-- the limit, until they take no more, or none is left
pub record AreTrimmed (limit most removed : ℕ) (before after : List Entry) : Type 0 where
  pub left : after ≡ take (length before - removed) before
  pub counted : removed ≤ length before
  pub few : removed ≤ most
  pub needed : (fewer : ℕ) → fewer < removed → limit < octets_of (take (length before - fewer) before) % 2 ^ 64
  pub enough : (octets_of after % 2 ^ 64 ≤ limit) ⊎ (removed ≡ length before) ⊎ (removed ≡ most)

-- what the keys of a part hold became this
abbrev pub Becomes : ShelfOf → ShelfOf → (List Entry → List Entry → Type 0) → Type 0
Becomes old new Is =
    (contents : List Entry) → AreContents old.part.snapshot (past_of old.part) contents
    → (after : List Entry) × AreContents new.part.snapshot (past_of new.part) after × Is contents after

-- what has no time went, and of the others as many as had to
abbrev pub Trims : ℕ → ℕ → ShelfOf → ShelfOf → ℕ → Type 0
Trims limit most old new removed = Becomes old new (λ before after. AreTrimmed limit most removed (lasting old.part.snapshot.rules.stale before) after)

-- when a part is trimmed, and when that is refused with what
abbrev pub IsTrimDue : {A : Type 0} → ℕ → Result A Refusal → Type 0
IsTrimDue moment (Ok removed) = moment ≤ LAST_MOMENT
IsTrimDue moment (Err HistoryFull) = moment ≤ LAST_MOMENT
IsTrimDue moment (Err MomentTooLarge) = LAST_MOMENT < moment
IsTrimDue moment (Err Memory) = moment ≤ LAST_MOMENT

-- why a trim of a part that records nothing is refused: the numbers of its events do not go on to two
-- more; the moment is too large; or memory, which it asks for only if no sweep came after the last offer
abbrev pub IsLeanRefusal : PartOf → PartOf → ℕ → Refusal → Type 0
IsLeanRefusal old new moment HistoryFull = 2 ^ 62 ≤ next_number new + 1
IsLeanRefusal old new moment MomentTooLarge = LAST_MOMENT < moment
IsLeanRefusal old new moment Memory = IsAfterLastSweep old 0
