-- SPDX-License-Identifier: MIT
-- Audits: the first event of a history that is not right after those before it.
use Rattle.std.specs.Prelude.{◌≡◌, ℕ, List, ◌∷◌, ◌++◌, length, reverse}
use Rattle.rrc_history.specs.declared.event.Event.{Event}
use Rattle.rrc_history.specs.declared.snapshot.Snapshot.{Snapshot}
use Rattle.rrc_history.specs.Right.{IsRight, IsLegal}

-- the events before a place, the oldest first, are legal from the snapshot, and the event at the place is not right after them
pub record IsFirstBad (snapshot : Snapshot) (events : List Event) (place : ℕ) : Type 0 where
  pub before : List Event
  pub event : Event
  pub behind : List Event
  pub are : events ≡ before ++ event ∷ behind
  pub at : length before ≡ place
  pub legal : IsLegal snapshot (reverse before)
  pub bad : IsRight snapshot (reverse before) event → ⊥
