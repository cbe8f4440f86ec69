-- SPDX-License-Identifier: MIT
-- The events of a line, however they are held.
use Rattle.std.specs.Prelude.{List, [], ◌∷◌}
use Rattle.std.specs.Borrow.{Bor}
use Rattle.rrc_history.specs.declared.event.Event.{Event}
use Rattle.rrc_collate.specs.declared.drawn.HeldEvents.{HeldEvents}
use Rattle.rrc_collate.specs.declared.drawn.HeldEvents.TheVariants.{Nothing, Alone, Listed}

-- the events, each borrowed from its part's history
pub record DrawnOf : Type 0 where
  pub items : List (Bor Event)

abbrev pub drawn_of : HeldEvents → DrawnOf
drawn_of Nothing = record { items = [] }
drawn_of (Alone event) = record { items = event ∷ [] }
drawn_of (Listed events) = record { items = events.items }
