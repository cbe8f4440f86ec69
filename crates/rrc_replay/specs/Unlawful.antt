-- SPDX-License-Identifier: MIT
-- Why an event is not right: which is due in its place, and what its keys held.
use Rattle.std.specs.Prelude.{◌≡◌, ◌⊎◌, ◌<◌, ◌≤◌, ◌^◌, ℕ, List, [], ◌∷◌, ◌++◌, length, reverse, Option, Some, None, option_to_list}
use Rattle.rrc_name.specs.declared.slot.Slot.TheVariants.{Set, Nx, Failed}
use Rattle.rrc_history.specs.declared.event.Event.{Event}
use Rattle.rrc_history.specs.declared.event.Event.TheVariants.{Offered, Asked, Swept}
use Rattle.rrc_history.specs.declared.snapshot.Entry.{Entry}
use Rattle.rrc_history.specs.declared.snapshot.Snapshot.{Snapshot}
use Rattle.rrc_history.specs.Lives.{LAST_MOMENT}
use Rattle.rrc_history.specs.Past.{held, key_at, moment_of, number_after}
use Rattle.rrc_history.specs.Right.{IsRight, IsLegal}
use Rattle.rrc_history.specs.WholeLaws.{IsSameCall}
use Rattle.rrc_cache.specs.Part.{PartOf, Adds}
use Rattle.rrc_replay.specs.declared.unlawful.Due.{Due}
use Rattle.rrc_replay.specs.declared.unlawful.Reason.{Reason}

-- what the keys of a call hold: of an offer its key, of an ask the set, the denial and the failure of its name
abbrev pub held_under : Snapshot → List Event → Event → List Entry
held_under snapshot past (Offered outcome tag offer evicted) = option_to_list (held snapshot past offer.key)
held_under snapshot past (Asked tag ask reply) =
    option_to_list (held snapshot past (key_at ask (Set ask.rtype)))
    ++ (option_to_list (held snapshot past (key_at ask Nx)) ++ option_to_list (held snapshot past (key_at ask (Failed ask.rtype))))
held_under snapshot past (Swept tag moment gone) = []

-- the event is right there, of the same call as the one that was written, and its keys held this
pub record IsDueEvent (snapshot : Snapshot) (past : List Event) (written : Event) (due : Due) : Type 0 where
  pub call : IsSameCall due.event written
  pub right : IsRight snapshot past due.event
  pub holds : due.held.items ≡ held_under snapshot past written

-- such an event is due, or none, where the numbers are spent or the moment is too large
abbrev pub IsDueThere : Snapshot → List Event → Event → Option Due → Type 0
IsDueThere snapshot past written None = (2 ^ 62 ≤ number_after snapshot past) ⊎ (LAST_MOMENT < moment_of written)
IsDueThere snapshot past written (Some due) = IsDueEvent snapshot past written due

-- the events of a chapter up to the first that is not right, and what is due in its place
pub record IsWhyUnlawful (opening : Snapshot) (events : List Event) (place : ℕ) (reason : Reason) : Type 0 where
  pub before : List Event
  pub behind : List Event
  pub are : events ≡ before ++ reason.written ∷ behind
  pub at : length before ≡ place
  pub legal : IsLegal opening (reverse before)
  pub bad : IsRight opening (reverse before) reason.written → ⊥
  pub instead : IsDueThere opening (reverse before) reason.written reason.due

-- the call of an event was made on a part again, and wrote an event
abbrev pub Repeats : PartOf → PartOf → Event → Type 0
Repeats old new event = (made : Event) × IsSameCall made event × Adds old new made

-- the last of the events is this one
abbrev pub EndsIn : List Event → Event → Type 0
EndsIn events event = (front : List Event) × (events ≡ front ++ event ∷ [])
