-- SPDX-License-Identifier: MIT
-- The numbers and the moments of events fit 64 bits: what private contracts say.
use Rattle.std.specs.Prelude.{ℕ, ◌+◌, ◌^◌, ◌<◌, ◌≤◌, List, [], ◌∷◌}
use Rattle.rrc_history.specs.declared.event.Event.{Event}
use Rattle.rrc_history.specs.Lives.{LAST_MOMENT}
use Rattle.rrc_history.specs.Past.{moment_of}

-- the first of the events has this number
abbrev pub Fit : ℕ → List Event → Type 0
Fit number [] = Unit {0}
Fit number (event ∷ events) = (number < 2 ^ 62) × (moment_of event ≤ LAST_MOMENT) × Fit (number + 1) events
