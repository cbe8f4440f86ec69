-- SPDX-License-Identifier: MIT
-- Who fetched a question, and who joined a fetch of it.
use Rattle.std.specs.Prelude.{◌<◌, ℕ, List, [], ◌∷◌, ◌++◌, Option, Some, None}
use Rattle.rrc_collate.specs.declared.valued.Valued.{Valued}
use Rattle.rrc_collate.specs.declared.task.Task.{Task}
use Rattle.rrc_collate.specs.declared.task.Fate.{Fate}
use Rattle.rrc_collate.specs.declared.task.Fate.TheVariants.{Plain, Joined, Fetched}

-- the question that a worker fetched, with the worker
abbrev pub fetch_by : ℕ → Fate → Option Valued
fetch_by worker Plain = None
fetch_by worker (Joined question) = None
fetch_by worker (Fetched question home) = Some (record { class = question; value = worker })

-- the question of which a worker joined a fetch, with the worker
abbrev pub join_by : ℕ → Fate → Option Valued
join_by worker Plain = None
join_by worker (Joined question) = Some (record { class = question; value = worker })
join_by worker (Fetched question home) = None

abbrev pub listed : Option Valued → List Valued
listed None = []
listed (Some valued) = valued ∷ []

-- what is picked of tasks, in their order
abbrev pub picked : (ℕ → Fate → Option Valued) → List Task → List Valued
picked pick [] = []
picked pick (task ∷ tasks) = listed (pick task.worker task.fate) ++ picked pick tasks

-- a question that a line fetched or joined is below a count
abbrev pub IsNumbered : ℕ → Fate → Type 0
IsNumbered questions Plain = Unit {0}
IsNumbered questions (Joined question) = question < questions
IsNumbered questions (Fetched question home) = question < questions
