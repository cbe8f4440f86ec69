-- SPDX-License-Identifier: MIT
-- Steps from what workers say that they did to a report. The clauses of private functions alone cite these words.
use Rattle.std.specs.Prelude.{◌≡◌, ℕ, ◌+◌, ◌^◌, List, [], ◌∷◌, ◌++◌, length, map, slice_get, Some}
use Rattle.std.specs.List.{All, AllZip, Any}
use Rattle.rrc_name.specs.Key.{KeyOf}
use Rattle.rrc_history.specs.declared.event.Event.{Event}
use Rattle.rrc_history.specs.declared.rules.Rules.{Rules}
use Rattle.rrc_history.specs.Chains.{WholeOf}
use Rattle.rrc_share.specs.Shelf.{ShelfOf}
use Rattle.rrc_trace.specs.declared.line.Line.{Line}
use Rattle.rrc_trace.specs.declared.answer.Answer.{Answer}
use Rattle.rrc_text.specs.declared.fault.ReplayFault.{ReplayFault}
use Rattle.rrc_text.specs.declared.fault.ReplayFault.TheVariants.{BadLine, TooManyLines, Read, Write, Strayed, Memory, Spent, TooManyQuestions, NotLegal}
use Rattle.rrc_trace.specs.Questions.{questions_of}
use Rattle.rrc_collate.specs.declared.task.Task.{Task}
use Rattle.rrc_collate.specs.declared.valued.Valued.{Valued}
use Rattle.rrc_collate.specs.Collated.{FitsHistories}
use Rattle.rrc_script.specs.declared.config.Config.{Config}
use Rattle.rrc_report.specs.declared.done.Answered.{Answered}
use Rattle.rrc_report.specs.declared.done.Done.{Done}
use Rattle.rrc_script.specs.Scripts.{HasScript}
use Rattle.rrc_report.specs.Answers.{Completes}
use Rattle.rrc_report.specs.Reports.{IsOfShelf, IsPartOf}

-- a line that a worker says it did, and what it got
pub record Given : Type 0 where
  pub worker : ℕ
  pub line : ℕ
  pub answer : Answer

abbrev pub given_by : ℕ → Answered → Given
given_by worker answered = record { worker = worker; line = answered.line; answer = answered.answer }

-- what workers say that they did, worker by worker, the first of them having this number
abbrev pub given_from : ℕ → List Done → List Given
given_from worker [] = []
given_from worker (one ∷ done) = map (given_by worker) one.answers ++ given_from (worker + 1) done

abbrev pub as_taken : Given → Valued
as_taken given = record { class = given.worker; value = given.line }

-- the task of a line that a worker says it did
pub record IsTaskOfLine (config : Config) (lines : List Line) (questions : List KeyOf) (given : Given) (task : Task) : Type 0 where
  pub line : Line
  pub line_is : slice_get lines given.line ≡ Some line
  pub worker_is : task.worker ≡ given.worker
  pub number_is : task.line ≡ given.line
  pub script : HasScript config questions line given.answer (record { operations = task.operations; fate = task.fate })

abbrev pub AreTasks : Config → List Line → List KeyOf → List Given → List Task → Type 0
AreTasks config lines questions given tasks = AllZip (IsTaskOfLine config lines questions) given tasks

-- the events of the tasks of what workers say that they did, where these fit the histories of the parts
pub record AreFitting (config : Config) (lines : List Line) (done : List Done) (histories events : List (List Event)) : Type 0 where
  pub tasks : List Task
  pub tasks_are : AreTasks config lines (questions_of lines) (given_from 0 done) tasks
  pub fits : FitsHistories (length lines) config.workers tasks histories events

-- the histories of shelves, each of them one of a part
pub record ArePartHistories (rules : Rules) (shelves : List ShelfOf) (wholes : List WholeOf) : Type 0 where
  pub shelves_are : AllZip IsOfShelf shelves wholes
  pub parts_are : All (IsPartOf rules) wholes

-- memory was refused, or the chapter of a part can't be closed, as its number is the last one
abbrev pub CanNotClose : ℕ → List ShelfOf → ReplayFault → Type 0
CanNotClose lines shelves (BadLine number) = ⊥
CanNotClose lines shelves TooManyLines = ⊥
CanNotClose lines shelves Read = ⊥
CanNotClose lines shelves Write = ⊥
CanNotClose lines shelves Strayed = ⊥
CanNotClose lines shelves Memory = Unit {0}
CanNotClose lines shelves (Spent number) = (number ≡ lines) × Any (λ shelf. shelf.part.number ≡ 2 ^ 62) shelves
CanNotClose lines shelves (TooManyQuestions number) = ⊥
CanNotClose lines shelves NotLegal = ⊥

-- the answer of a given line completes what was given by the events of the line
pub record StandsComplete (answers : List Answer) (given : Given) (events : List Event) : Type 0 where
  pub answer : Answer
  pub answer_is : slice_get answers given.line ≡ Some answer
  pub completes : Completes given.answer answer events

-- as many answers as lines, and each given one completed by its events
pub record AreComplete (count : ℕ) (given : List Given) (events : List (List Event)) (answers : List Answer) : Type 0 where
  pub size : length answers ≡ count
  pub each : AllZip (StandsComplete answers) given events
