-- SPDX-License-Identifier: MIT
-- A table with a place for the answer of each line. The clauses of private functions alone cite these words.
use Rattle.std.specs.Prelude.{◌≡◌, ◌<◌, ℕ, List, [], ◌∷◌, ◌++◌, length, slice_get, slice_index_or, Some}
use Rattle.std.specs.List.{AllZip}
use Rattle.rrc_history.specs.declared.event.Event.{Event}
use Rattle.rrc_trace.specs.declared.answer.Answer.{Answer}
use Rattle.rrc_report.specs.declared.done.Answered.{Answered}
use Rattle.rrc_report.specs.declared.done.Done.{Done}
use Rattle.rrc_report.specs.Answers.{Completes}

-- what workers say that they did, worker by worker
abbrev pub answered_by : List Done → List Answered
answered_by [] = []
answered_by (one ∷ done) = one.answers ++ answered_by done

-- the answer of a line stands in its place, and completes what was given
pub record StandsIn (table : List Answer) (given : Answered) (events : List Event) : Type 0 where
  pub answer : Answer
  pub found : slice_get table given.line ≡ Some answer
  pub completes : Completes given.answer answer events

abbrev pub AreIn : List Answer → List Answered → List (List Event) → Type 0
AreIn table given events = AllZip (StandsIn table) given events

-- the events of one of the lines complete no answer
pub record IsMissed (given : List Answered) (events : List (List Event)) : Type 0 where
  pub place : ℕ
  pub one : Answered
  pub within : place < length given
  pub is : slice_index_or given place one ≡ one
  pub none : (answer : Answer) → Completes one.answer answer (slice_index_or events place []) → ⊥
