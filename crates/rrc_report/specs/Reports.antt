-- SPDX-License-Identifier: MIT
-- When a report is that of a trace: what many workers got, and the histories of the parts that tell it.
use Rattle.std.specs.Prelude.{◌≡◌, ℕ, ◌+◌, List, [], ◌∷◌, ◌++◌, length, map, reverse, slice_get, Some}
use Rattle.std.specs.List.{All, AllZip}
use Rattle.rrc_history.specs.declared.event.Event.{Event}
use Rattle.rrc_history.specs.declared.rules.Rules.{Rules}
use Rattle.rrc_history.specs.declared.snapshot.Snapshot.{Snapshot}
use Rattle.rrc_history.specs.Chains.{WholeOf}
use Rattle.rrc_history.specs.Chapters.{LeadTo}
use Rattle.rrc_history.specs.WholeLaws.{AllKeepLaws}
use Rattle.rrc_share.specs.Shelf.{ShelfOf, opening_of, history_of}
use Rattle.rrc_trace.specs.declared.line.Line.{Line}
use Rattle.rrc_trace.specs.declared.answer.Answer.{Answer}
use Rattle.rrc_trace.specs.Questions.{questions_of}
use Rattle.rrc_collate.specs.declared.task.Task.{Task}
use Rattle.rrc_collate.specs.declared.valued.Valued.{Valued}
use Rattle.rrc_collate.specs.Collated.{taken_by, histories_of}
use Rattle.rrc_collate.specs.Collated as collated
use Rattle.rrc_script.specs.declared.config.Config.{Config}
use Rattle.rrc_report.specs.declared.done.Answered.{Answered}
use Rattle.rrc_report.specs.declared.done.Done.{Done}
use Rattle.rrc_report.specs.declared.report.Report.{Report}
use Rattle.rrc_script.specs.Scripts.{HasScript}
use Rattle.rrc_report.specs.Answers.{IsTold, without_keys}

-- the snapshot of a new part, which holds nothing
abbrev pub empty_under : Rules → Snapshot
empty_under rules = record { rules = rules; first = 0; entries = [] }

-- a part's history: from an empty part on, legal, and ending in its closing; so it keeps the laws of trust and of life
pub record IsPartOf (rules : Rules) (whole : WholeOf) : Type 0 where
  pub opening : whole.snapshot ≡ empty_under rules
  pub leads : LeadTo whole.snapshot whole.events whole.closing
  pub laws : AllKeepLaws whole.snapshot (reverse whole.events)

-- which worker took which line, the first of these workers having this number
abbrev pub taken_from : ℕ → List (List ℕ) → List Valued
taken_from worker [] = []
taken_from worker (share ∷ shares) = map (λ line. record { class = worker; value = line }) share ++ taken_from (worker + 1) shares

-- a line of the trace and what it got
pub record StandsThere (lines : List Line) (answers : List Answer) (number : ℕ) (line : Line) (answer : Answer) : Type 0 where
  pub line_is : slice_get lines number ≡ Some line
  pub answer_is : slice_get answers number ≡ Some answer

-- the operations of a task are the script of its line
pub record IsScripted (config : Config) (lines : List Line) (answers : List Answer) (task : Task) : Type 0 where
  pub line : Line
  pub answer : Answer
  pub stands : StandsThere lines answers task.line line answer
  pub script : HasScript config (questions_of lines) line answer (record { operations = task.operations; fate = task.fate })

-- what a task's line got is what the events of the task tell
pub record IsAnswered (answers : List Answer) (task : Task) (events : List Event) : Type 0 where
  pub answer : Answer
  pub answer_is : slice_get answers task.line ≡ Some answer
  pub told : IsTold answer events

-- A report is that of a trace by a number of workers over a number of parts. Its tasks are the lines of the trace, as the workers did them.
-- shares, parts, answers: there is a share for each worker, a history for each part, and an answer for each line
-- histories: each part's history is legal from an empty part on, and keeps the laws
-- taken: the tasks are those of the shares, worker by worker
-- scripts: each task makes the operations that its line calls for
-- fits: the histories are just what the tasks wrote: each line was taken once, each operation stands once in its part, in its worker's order, and
--   fetches of a question never mix (`FitsHistories` of rrc_collate)
-- told: what each line got is what the events of its task tell
pub record IsCollated (config : Config) (lines : List Line) (report : Report) : Type 0 where
  pub tasks : List Task
  pub events : List (List Event)
  pub shares : length report.shares ≡ config.workers
  pub parts : length report.wholes ≡ config.parts
  pub answers : length report.lines ≡ length lines
  pub histories : All (IsPartOf config.rules) report.wholes
  pub taken : taken_by tasks ≡ taken_from 0 report.shares
  pub scripts : All (IsScripted config lines report.lines) tasks
  pub fits : collated.FitsHistories (length lines) config.workers tasks (histories_of report.wholes) events
  pub told : AllZip (IsAnswered report.lines) tasks events

-- ---- what was handed in

-- the history is that of a shelf
pub record IsOfShelf (shelf : ShelfOf) (whole : WholeOf) : Type 0 where
  pub opening : whole.snapshot ≡ opening_of shelf
  pub events : whole.events ≡ history_of shelf

-- the lines that a worker says it did
abbrev pub lines_done : Done → List ℕ
lines_done done = map (λ answered. answered.line) done.answers

-- an answer of the report is the given one, but for the keys that were evicted
pub record IsGiven (answers : List Answer) (given : Answered) : Type 0 where
  pub answer : Answer
  pub answer_is : slice_get answers given.line ≡ Some answer
  pub same : given.answer ≡ without_keys answer

-- the report holds what the workers say that they did, and the histories of the shelves
pub record Holds (shelves : List ShelfOf) (done : List Done) (report : Report) : Type 0 where
  pub shares : report.shares ≡ map lines_done done
  pub given : All (λ one. All (IsGiven report.lines) one.answers) done
  pub wholes : AllZip IsOfShelf shelves report.wholes
