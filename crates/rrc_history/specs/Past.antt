-- SPDX-License-Identifier: MIT
-- What a history says: the events since a snapshot, the newest first.
use Rattle.std.specs.Prelude.{◌≡◌, ℕ, ◌+◌, ◌<◌, List, [], ◌∷◌, length, Bool, false, ◌==◌, not, if◌then◌else◌, Option, Some, None, find, filter}
use Rattle.std.specs.List.{list_any}
use Rattle.rrc_name.specs.declared.slot.Slot.{Slot}
use Rattle.rrc_name.specs.declared.slot.Slot.TheVariants.{Set, Nx, Failed}
use Rattle.rrc_name.specs.Key.{KeyOf, key_eq}
use Rattle.rrc_history.specs.declared.event.Event.{Event}
use Rattle.rrc_history.specs.declared.event.Event.TheVariants.{Offered, Asked, Swept}
use Rattle.rrc_history.specs.declared.event.Outcome.{Outcome}
use Rattle.rrc_history.specs.declared.event.Outcome.TheVariants.{Kept, Cleared, LessTrusted}
use Rattle.rrc_history.specs.declared.event.Reply.{Reply}
use Rattle.rrc_history.specs.declared.snapshot.Entry.{Entry}
use Rattle.rrc_history.specs.declared.snapshot.Snapshot.{Snapshot}
use Rattle.rrc_history.specs.Asked.{AskOf}
use Rattle.rrc_history.specs.Fits.{OfferOf}
use Rattle.rrc_history.specs.Judged.{Found, reply_by, answering, key_in}

-- the moment of an event's call
abbrev pub moment_of : Event → ℕ
moment_of (Offered outcome tag offer evicted) = offer.moment
moment_of (Asked tag ask reply) = ask.moment
moment_of (Swept tag moment gone) = moment

-- the first of the entries of a key
abbrev pub entry_at : KeyOf → List Entry → Option Entry
entry_at key entries = find (λ entry. key_eq key entry.key) entries

-- the entries of all other keys
abbrev pub others : KeyOf → List Entry → List Entry
others key entries = filter (λ entry. not (key_eq key entry.key)) entries

-- the key is one of these
abbrev pub is_among : KeyOf → List KeyOf → Bool
is_among key keys = list_any (λ other. key_eq key other) keys

-- the number of the event behind these
abbrev pub number_after : Snapshot → List Event → ℕ
number_after snapshot past = snapshot.first + length past

-- what a kept offer stores
abbrev pub entry_of : OfferOf → ℕ → Entry
entry_of offer number = record { key = offer.key; body = offer.body; moment = offer.moment; number = number }

-- the key was evicted
abbrev pub is_evicted : KeyOf → Option KeyOf → Bool
is_evicted key None = false
is_evicted key (Some evicted) = key_eq key evicted

-- what a key holds after an offer that held this before
abbrev pub held_after_offer : ℕ → OfferOf → Outcome → Option KeyOf → KeyOf → Option Entry → Option Entry
held_after_offer number offer Kept evicted key before =
    if key_eq key offer.key then Some (entry_of offer number) else if is_evicted key evicted then None else before
held_after_offer number offer Cleared evicted key before = if key_eq key offer.key then None else before
held_after_offer number offer LessTrusted evicted key before = before

-- what a key holds: the last body that was kept under it, unless it was cleared, evicted or swept since
unfoldable pub held : Snapshot → List Event → KeyOf → Option Entry
held snapshot [] key = entry_at key snapshot.entries
held snapshot (Offered outcome tag offer evicted ∷ past) key =
    held_after_offer (number_after snapshot past) offer outcome evicted key (held snapshot past key)
held snapshot (Asked tag ask reply ∷ past) key = held snapshot past key
held snapshot (Swept tag moment gone ∷ past) key = if is_among key gone then None else held snapshot past key

-- a key of the name and class that an ask is about
abbrev pub key_at : AskOf → Slot → KeyOf
key_at ask slot = record { name = ask.name; class = ask.class; slot = slot }

-- what the keys of an ask hold
abbrev pub found : Snapshot → List Event → AskOf → Found
found snapshot past ask = record {
  set = held snapshot past (key_at ask (Set ask.rtype));
  nx = held snapshot past (key_at ask Nx);
  failed = held snapshot past (key_at ask (Failed ask.rtype));
}

-- what an ask is to be answered
abbrev pub reply_to : Snapshot → List Event → AskOf → Reply
reply_to snapshot past ask = reply_by snapshot.rules.stale (found snapshot past ask) ask

-- the key that an event touches: a kept offer its own, an answer the one that gave it
abbrev pub touched_by_offer : OfferOf → Outcome → Option KeyOf
touched_by_offer offer Kept = Some offer.key
touched_by_offer offer outcome = None

abbrev pub touched : Snapshot → List Event → Event → Option KeyOf
touched snapshot past (Offered outcome tag offer evicted) = touched_by_offer offer outcome
touched snapshot past (Asked tag ask reply) = key_in (answering (found snapshot past ask) ask reply)
touched snapshot past (Swept tag moment gone) = None

-- the place of a key among entries, counted from the last one
abbrev pub place_of : KeyOf → List Entry → ℕ
place_of key [] = 0
place_of key (entry ∷ entries) = if key_eq key entry.key then length entries else place_of key entries

-- when a key was touched last: the number of that event, or else its place in the snapshot
unfoldable pub touch : Snapshot → List Event → KeyOf → ℕ
touch snapshot [] key = place_of key snapshot.entries
touch snapshot (event ∷ past) key =
    if is_evicted key (touched snapshot past event) then number_after snapshot past else touch snapshot past key

-- the entries' keys were touched before a number, each later than those behind it
abbrev pub FallsBelow : Snapshot → List Event → ℕ → List Entry → Type 0
FallsBelow snapshot past number [] = Unit {0}
FallsBelow snapshot past number (entry ∷ entries) =
    (touch snapshot past entry.key < number) × FallsBelow snapshot past (touch snapshot past entry.key) entries

-- the entries are what the keys hold, each key once, the one touched last first
pub record AreContents (snapshot : Snapshot) (past : List Event) (entries : List Entry) : Type 0 where
  pub agree : (key : KeyOf) → entry_at key entries ≡ held snapshot past key
  pub falling : FallsBelow snapshot past (number_after snapshot past) entries

-- the key of the last entry
abbrev pub last_key : List Entry → Option KeyOf
last_key [] = None
last_key (entry ∷ []) = Some entry.key
last_key (entry ∷ next ∷ entries) = last_key (next ∷ entries)

-- the key touched least recently, where there are as many as there may be
abbrev pub victim : ℕ → List Entry → Option KeyOf
victim capacity entries = if length entries == capacity then last_key entries else None
