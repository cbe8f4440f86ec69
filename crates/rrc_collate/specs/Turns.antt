-- SPDX-License-Identifier: MIT
-- Tables of what became of each line, and of the turns of fetches.
use Rattle.std.specs.Prelude.{◌≡◌, ◌<◌, ℕ, ◌+◌, ◌==◌, List, [], ◌∷◌, ◌++◌, length, slice_index_or, Bool, true, false, Option, Some, None, if◌then◌else◌}
use Rattle.rrc_history.specs.declared.event.Event.{Event}
use Rattle.rrc_history.specs.declared.event.Tag.{Tag}
use Rattle.rrc_collate.specs.declared.valued.Valued.{Valued}
use Rattle.rrc_collate.specs.declared.task.Task.{Task}
use Rattle.rrc_collate.specs.declared.task.Fate.{Fate}
use Rattle.rrc_collate.specs.declared.task.Fate.TheVariants.{Plain, Joined, Fetched}
use Rattle.rrc_collate.specs.Calls.{tag_of}
use Rattle.rrc_collate.specs.Fetches.{listed}

-- the first of two fates, if there is one already
abbrev pub first_fate : Option Fate → Fate → Option Fate
first_fate None fate = Some fate
first_fate (Some first) fate = Some first

-- what became of a line, where this is known of it already
abbrev pub fate_from : Option Fate → ℕ → List Task → Option Fate
fate_from known line [] = known
fate_from known line (task ∷ behind) = fate_from (if task.line == line then first_fate known task.fate else known) line behind

-- what became of each line
pub record AreFates (lines : ℕ) (tasks : List Task) (fates : List (Option Fate)) : Type 0 where
  pub size : length fates ≡ lines
  pub each : (line : ℕ) → line < lines → slice_index_or fates line None ≡ fate_from None line tasks

-- a line fetched a question
abbrev pub is_fetched : Fate → Bool
is_fetched Plain = false
is_fetched (Joined question) = false
is_fetched (Fetched question home) = true

-- a line fetched a question of a name in this part
abbrev pub is_home : ℕ → Option Fate → Bool
is_home part None = false
is_home part (Some Plain) = false
is_home part (Some (Joined question)) = false
is_home part (Some (Fetched question home)) = home == part

-- the number of a line's last event, where so many events are passed, and this number is known of them
abbrev pub last_from : ℕ → ℕ → ℕ → List Event → ℕ
last_from passed known line [] = known
last_from passed known line (event ∷ behind) = last_from (passed + 1) (if (tag_of event).line == line then passed + 1 else known) line behind

-- the number of a line's last event in its home, where so many parts are passed, and this number is known of them
abbrev pub turn_from : Option Fate → ℕ → ℕ → ℕ → List (List Event) → ℕ
turn_from fate passed known line [] = known
turn_from fate passed known line (history ∷ behind) = turn_from fate (passed + 1) (if is_home passed fate then last_from 0 known line history else known) line behind

-- the turn of each line
pub record AreTurns (fates : List (Option Fate)) (histories : List (List Event)) (turns : List ℕ) : Type 0 where
  pub size : length turns ≡ length fates
  pub each : (line : ℕ) → line < length fates → slice_index_or turns line 0 ≡ turn_from (slice_index_or fates line None) 0 0 line histories

-- the question that a line fetched, and its turn
abbrev pub turn_with : Option Fate → ℕ → Option Valued
turn_with None turn = None
turn_with (Some Plain) turn = None
turn_with (Some (Joined question)) turn = None
turn_with (Some (Fetched question home)) turn = Some (record { class = question; value = turn })

abbrev pub turn_told : List (Option Fate) → List ℕ → Tag → Option Valued
turn_told fates turns tag = if tag.place == 0 then None else turn_with (slice_index_or fates tag.line None) (slice_index_or turns tag.line 0)

-- the questions that events fetch, and the turns of these fetches
abbrev pub turns_told : List (Option Fate) → List ℕ → List Event → List Valued
turns_told fates turns [] = []
turns_told fates turns (event ∷ behind) = listed (turn_told fates turns (tag_of event)) ++ turns_told fates turns behind
