-- SPDX-License-Identifier: MIT
-- What workers say that they did, completed by events, and the report that holds it.
use Rattle.std.proofs.Common.{◌≡◌, ℕ, ◌+◌, List, [], ◌∷◌, length, map, Some, sym, ap, ◌∙◌}
use Rattle.std.specs.Prelude.{slice_get}
use Rattle.std.specs.List.{All, AllZip}
use Rattle.std.proofs.lemmas.List.Elements.{All-nil, All-cons, All-head, All-tail, All-append, All-map}
use Rattle.rrc_name.specs.Key.{KeyOf}
use Rattle.rrc_history.specs.declared.event.Event.{Event}
use Rattle.rrc_trace.specs.declared.line.Line.{Line}
use Rattle.rrc_trace.specs.declared.answer.Answer.{Answer}
use Rattle.rrc_collate.specs.declared.task.Task.{Task}
use Rattle.rrc_script.specs.declared.config.Config.{Config}
use Rattle.rrc_report.specs.declared.done.Answered.{Answered}
use Rattle.rrc_report.specs.declared.done.Done.{Done}
use Rattle.rrc_report.specs.Answers.{IsTold, without_keys}
use Rattle.rrc_report.specs.Reports.{IsAnswered, IsGiven}
use Rattle.rrc_report.proofs.Zips.{all_left, all_right, all_unmap}
use Rattle.rrc_report.specs.Steps.{Given, given_by, given_from, AreTasks, StandsComplete, AreComplete}

-- what a given line got in the report is what its events tell
pub record IsGivenTold (answers : List Answer) (given : Given) (events : List Event) : Type 0 where
  pub answer : Answer
  pub answer_is : slice_get answers given.line ≡ Some answer
  pub told : IsTold answer events

abbrev pub as_answered : Given → Answered
as_answered given = record { line = given.line; answer = given.answer }

-- the report holds what was given of a line
abbrev pub IsHeld : List Answer → Given → Type 0
IsHeld answers given = IsGiven answers (as_answered given)

-- ---- from what is complete

each_held : (answers : List Answer) (given : List Given) (events : List (List Event)) → AllZip (StandsComplete answers) given events → All (IsHeld answers) given
each_held answers [] events all = All-nil (IsHeld answers)
each_held answers (one ∷ given) [] all = absurd all
each_held answers (one ∷ given) (own ∷ events) all =
    All-cons (IsHeld answers) one given (record { answer = all.0.answer; answer_is = all.0.answer_is; same = all.0.completes.same }) (each_held answers given events all.1)

all_given : (answers : List Answer) (worker : ℕ) (done : List Done) → All (IsHeld answers) (given_from worker done) → All (λ one. All (IsGiven answers) one.answers) done
all_given answers worker [] all = All-nil (λ one. All (IsGiven answers) one.answers)
all_given answers worker (one ∷ done) all =
    let own = map (given_by worker) one.answers in
    let behind = given_from (worker + 1) done in
    All-cons (λ one. All (IsGiven answers) one.answers) one done
    (all_unmap (IsHeld answers) (given_by worker) one.answers (all_left (IsHeld answers) own behind all))
    (all_given answers (worker + 1) done (all_right (IsHeld answers) own behind all))

-- the answers that are complete are the given ones but for the evicted keys
pub complete_gives : (count : ℕ) (done : List Done) (events : List (List Event)) (answers : List Answer) → AreComplete count (given_from 0 done) events answers
    → All (λ one. All (IsGiven answers) one.answers) done
complete_gives count done events answers are = all_given answers 0 done (each_held answers (given_from 0 done) events are.each)

-- and the events tell them
pub complete_told : (answers : List Answer) (given : List Given) (events : List (List Event)) → AllZip (StandsComplete answers) given events
    → AllZip (IsGivenTold answers) given events
complete_told answers [] [] all = tt
complete_told answers [] (own ∷ events) all = absurd all
complete_told answers (one ∷ given) [] all = absurd all
complete_told answers (one ∷ given) (own ∷ events) all =
    (record { answer = all.0.answer; answer_is = all.0.answer_is; told = all.0.completes.told }, complete_told answers given events all.1)

-- what the events of given lines tell, the events of their tasks tell
pub told_of_tasks : (config : Config) (lines : List Line) (questions : List KeyOf) (answers : List Answer) (given : List Given) (tasks : List Task) (events : List (List Event))
    → AreTasks config lines questions given tasks → AllZip (IsGivenTold answers) given events → AllZip (IsAnswered answers) tasks events
told_of_tasks config lines questions answers [] [] [] are told = tt
told_of_tasks config lines questions answers [] [] (own ∷ events) are told = absurd told
told_of_tasks config lines questions answers [] (task ∷ tasks) events are told = absurd are
told_of_tasks config lines questions answers (one ∷ given) [] events are told = absurd are
told_of_tasks config lines questions answers (one ∷ given) (task ∷ tasks) [] are told = absurd told
told_of_tasks config lines questions answers (one ∷ given) (task ∷ tasks) (own ∷ events) are told = (
  record { answer = told.0.answer; answer_is = ap (slice_get answers) are.0.number_is ∙ told.0.answer_is; told = told.0.told },
  told_of_tasks config lines questions answers given tasks events are.1 told.1,
)

-- what is complete is answered, task by task
pub complete_answers : (config : Config) (lines : List Line) (questions : List KeyOf) (answers : List Answer) (given : List Given) (tasks : List Task) (events : List (List Event))
    → AreTasks config lines questions given tasks → AllZip (StandsComplete answers) given events → AllZip (IsAnswered answers) tasks events
complete_answers config lines questions answers given tasks events are all =
    told_of_tasks config lines questions answers given tasks events are (complete_told answers given events all)

-- ---- to what is complete

pub each_given : (answers : List Answer) (worker : ℕ) (done : List Done) → All (λ one. All (IsGiven answers) one.answers) done → All (IsHeld answers) (given_from worker done)
each_given answers worker [] all = All-nil (IsHeld answers)
each_given answers worker (one ∷ done) all =
    All-append (IsHeld answers) (map (given_by worker) one.answers) (given_from (worker + 1) done)
    (All-map (IsHeld answers) (given_by worker) one.answers (All-head (λ one. All (IsGiven answers) one.answers) one done all))
    (each_given answers (worker + 1) done (All-tail (λ one. All (IsGiven answers) one.answers) one done all))

stands : (answers : List Answer) (given : Given) (events : List Event) → IsHeld answers given → IsGivenTold answers given events → StandsComplete answers given events
stands answers given events held told =
    let one = told.answer_is in
    let other = held.answer_is in
    let same : held.answer ≡ told.answer = cc in
    record {
      answer = told.answer;
      answer_is = told.answer_is;
      completes = record { told = told.told; same = held.same ∙ ap without_keys same };
    }

all_stand : (answers : List Answer) (given : List Given) (events : List (List Event)) → All (IsHeld answers) given → AllZip (IsGivenTold answers) given events
    → AllZip (StandsComplete answers) given events
all_stand answers [] [] held told = tt
all_stand answers [] (own ∷ events) held told = absurd told
all_stand answers (one ∷ given) [] held told = absurd told
all_stand answers (one ∷ given) (own ∷ events) held told = (
  stands answers one own (All-head (IsHeld answers) one given held) told.0,
  all_stand answers given events (All-tail (IsHeld answers) one given held) told.1,
)

-- answers that are the given ones but for the evicted keys, and that the events tell, are complete
pub complete_from : (count : ℕ) (done : List Done) (events : List (List Event)) (answers : List Answer) → length answers ≡ count
    → All (λ one. All (IsGiven answers) one.answers) done → AllZip (IsGivenTold answers) (given_from 0 done) events → AreComplete count (given_from 0 done) events answers
complete_from count done events answers size given told = record {
  size = size;
  each = all_stand answers (given_from 0 done) events (each_given answers 0 done given) told;
}

-- what the events of tasks tell, those of their given lines tell
pub told_of_given : (config : Config) (lines : List Line) (questions : List KeyOf) (answers : List Answer) (given : List Given) (tasks : List Task) (events : List (List Event))
    → AreTasks config lines questions given tasks → AllZip (IsAnswered answers) tasks events → AllZip (IsGivenTold answers) given events
told_of_given config lines questions answers [] [] [] are told = tt
told_of_given config lines questions answers [] [] (own ∷ events) are told = absurd told
told_of_given config lines questions answers [] (task ∷ tasks) events are told = absurd are
told_of_given config lines questions answers (one ∷ given) [] events are told = absurd are
told_of_given config lines questions answers (one ∷ given) (task ∷ tasks) [] are told = absurd told
told_of_given config lines questions answers (one ∷ given) (task ∷ tasks) (own ∷ events) are told = (
  record { answer = told.0.answer; answer_is = ap (slice_get answers) (sym are.0.number_is) ∙ told.0.answer_is; told = told.0.told },
  told_of_given config lines questions answers given tasks events are.1 told.1,
)
