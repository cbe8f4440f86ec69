-- SPDX-License-Identifier: MIT
-- What the calls of a part do to its entries, the key touched last first.
use Rattle.std.specs.Prelude.{◌≡◌, ℕ, ◌∷◌, List, Bool, Option}
use Rattle.std.specs.Option.{option_map}
use Rattle.std.specs.List.Sorted.{IsStrictlySortedBy}
use Rattle.rrc_name.specs.declared.slot.Slot.{Slot}
use Rattle.rrc_name.specs.Key.{KeyOf, key_order}
use Rattle.rrc_history.specs.declared.event.Outcome.{Outcome}
use Rattle.rrc_history.specs.declared.event.Outcome.TheVariants.{Kept}
use Rattle.rrc_history.specs.declared.snapshot.Entry.{Entry}
use Rattle.rrc_history.specs.Fits.{OfferOf}
use Rattle.rrc_history.specs.Asked.{AskOf}
use Rattle.rrc_history.specs.declared.event.Reply.{Reply}
use Rattle.rrc_history.specs.Auditing.{reply_eq}
use Rattle.rrc_history.specs.Entries.{answered_from, found_among, goes, kept_after, fully_expired_keys, staying}
use Rattle.rrc_history.specs.Judged.{verdict, reply_by, answering, key_in}
use Rattle.rrc_history.specs.Past.{entry_at, is_among, key_at}
use Rattle.rrc_history.specs.Right.{evicted_by}

-- an entry was put in front, in the place of the one that its key had or of the one that it evicts
pub record IsPlaced (capacity : ℕ) (entry : Entry) (before : List Entry) (evicted : Option KeyOf) (after : List Entry) : Type 0 where
  pub evicts : evicted ≡ evicted_by capacity before (entry_at entry.key before) Kept
  pub left : after ≡ entry ∷ staying (goes entry.key evicted) before

-- an offer was judged by what its key held, and left what its outcome says
pub record IsTaken (capacity number : ℕ) (offer : OfferOf) (before : List Entry) (outcome : Outcome) (evicted : Option KeyOf) (after : List Entry) : Type 0 where
  pub judged : outcome ≡ verdict (entry_at offer.key before) offer
  pub evicts : evicted ≡ evicted_by capacity before (entry_at offer.key before) outcome
  pub left : after ≡ kept_after outcome offer number evicted before

-- the entry has the name
abbrev pub HasName : List ℕ → Entry → Type 0
HasName name entry = entry.key.name ≡ name

-- the entry is of the class
abbrev pub HasClass : ℕ → Entry → Type 0
HasClass class entry = entry.key.class ≡ class

-- moving the entry of a slot to the front, if there is a slot, is moving the one that answers an ask, if one does: where
-- that stands in front already, no slot will do
abbrev pub IsMove : AskOf → List Entry → Reply → Option Slot → Type 0
IsMove ask entries reply slot =
    answered_from (option_map (key_at ask) slot) entries ≡ answered_from (key_in (answering (found_among entries ask) ask reply)) entries

-- an ask was answered by what its keys held, and this moves the entry that answers to the front
pub record IsAnswered (stale : ℕ) (ask : AskOf) (entries : List Entry) (reply : Reply) (slot : Option Slot) : Type 0 where
  pub answered : reply ≡ reply_by stale (found_among entries ask) ask
  pub moves : IsMove ask entries reply slot

-- the slot of the entry that answers, if any does
abbrev pub slot_of : Option Entry → Option Slot
slot_of answering = option_map (λ entry. entry.key.slot) answering

-- an ask was answered, and it is told whether that is this reply
pub record IsCompared (stale : ℕ) (ask : AskOf) (entries : List Entry) (reply : Reply) (same : Bool) (slot : Option Slot) : Type 0 where
  pub answer : Reply
  pub answered : IsAnswered stale ask entries answer slot
  pub told : same ≡ reply_eq answer reply

-- the keys of the fully expired entries, in the order of keys
pub record AreExpiredKeys (stale moment : ℕ) (entries : List Entry) (keys : List KeyOf) : Type 0 where
  pub sorted : IsStrictlySortedBy key_order keys
  pub expired : (key : KeyOf) → is_among key keys ≡ is_among key (fully_expired_keys stale moment entries)
