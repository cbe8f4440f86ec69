-- SPDX-License-Identifier: MIT
-- What a legal past leaves, and what the call of an event makes of that.
use Rattle.std.specs.Prelude.{◌≡◌, ℕ, List, Bool, true, false, Option, Some, None}
use Rattle.std.specs.Bool.{Decides}
use Rattle.std.specs.Option.{option_map}
use Rattle.rrc_name.specs.declared.slot.Slot.{Slot}
use Rattle.rrc_name.specs.Key.{KeyOf, key_eq}
use Rattle.rrc_history.specs.declared.event.Event.{Event}
use Rattle.rrc_history.specs.declared.event.Event.TheVariants.{Offered, Asked, Swept}
use Rattle.rrc_history.specs.declared.rules.Rules.{Rules}
use Rattle.rrc_history.specs.declared.snapshot.Entry.{Entry}
use Rattle.rrc_history.specs.declared.snapshot.Snapshot.{Snapshot}
use Rattle.rrc_history.specs.Entries.{answered_from, staying}
use Rattle.rrc_history.specs.Fits.{fits}
use Rattle.rrc_history.specs.Past.{AreContents, is_among, key_at, number_after}
use Rattle.rrc_history.specs.Right.{IsLegal}
use Rattle.rrc_history.specs.Sound.{AreSound}
use Rattle.rrc_history.specs.WholeLaws.{IsSameCall}
use Rattle.rrc_cache.specs.Taken.{IsTaken, IsAnswered, AreExpiredKeys}

-- a legal past leaves these entries, the key touched last first, and they may open a chapter
pub record Leaves (snapshot : Snapshot) (past : List Event) (entries : List Entry) : Type 0 where
  pub legal : IsLegal snapshot past
  pub contents : AreContents snapshot past entries
  pub kept : AreSound snapshot.rules.capacity (number_after snapshot past) entries

-- a call on entries wrote this event, of a number, and left those
abbrev pub Writes : Rules → ℕ → List Entry → Event → List Entry → Type 0
Writes rules number before (Offered outcome tag offer evicted) after =
    (fits offer.key offer.body ≡ true) × IsTaken rules.capacity number offer before outcome evicted after
Writes rules number before (Asked tag ask reply) after =
    (slot : Option Slot) × IsAnswered rules.stale ask before reply slot × (after ≡ answered_from (option_map (key_at ask) slot) before)
Writes rules number before (Swept tag moment gone) after =
    AreExpiredKeys rules.stale moment before gone × (after ≡ staying (λ key. is_among key gone) before)

-- the call of an event was made again, and it is told whether that wrote just this event
pub record IsMadeAgain (rules : Rules) (number : ℕ) (before : List Entry) (event : Event) (same : Bool) (after : List Entry) : Type 0 where
  pub made : Event
  pub call : IsSameCall made event
  pub writes : Writes rules number before made after
  pub told : Decides same (made ≡ event)

-- the same key was evicted, or none
abbrev pub evicted_eq : Option KeyOf → Option KeyOf → Bool
evicted_eq None None = true
evicted_eq (Some key) (Some other) = key_eq key other
evicted_eq key other = false
