-- SPDX-License-Identifier: MIT
-- tasks of what workers say that they did: from a report, and to one
use Rattle.std.proofs.Common.{◌≡◌, List, [], ◌∷◌, map, Some, refl, sym, ◌∙◌, ap, subst}
use Rattle.std.specs.Prelude.{slice_get}
use Rattle.std.specs.List.{All, AllZip}
use Rattle.std.proofs.lemmas.List.Elements.{All-nil, All-cons, All-head, All-tail}
use Rattle.rrc_name.specs.Key.{KeyOf}
use Rattle.rrc_history.specs.declared.event.Event.{Event}
use Rattle.rrc_trace.specs.declared.line.Line.{Line}
use Rattle.rrc_trace.specs.declared.answer.Answer.{Answer}
use Rattle.rrc_trace.specs.Questions.{questions_of}
use Rattle.rrc_collate.specs.declared.task.Task.{Task}
use Rattle.rrc_collate.specs.declared.valued.Valued.{Valued}
use Rattle.rrc_collate.specs.Collated.{taken_by}
use Rattle.rrc_script.specs.declared.config.Config.{Config}
use Rattle.rrc_script.specs.declared.script.Script.{Script}
use Rattle.rrc_script.specs.Scripts.{HasScript, OneScript}
use Rattle.rrc_report.specs.Answers.{without_keys}
use Rattle.rrc_report.specs.Reports.{IsScripted}
use Rattle.rrc_report.specs.Steps.{Given, as_taken, IsTaskOfLine, AreTasks, StandsComplete}
use Rattle.rrc_report.proofs.ScriptKeys.{script_without_keys, script_with_keys}
use Rattle.rrc_report.proofs.Completed.{IsHeld}

-- ---- tasks are those of a report

-- the task of a line that a report has scripted and whose answer was given
task_given : (config : Config) (lines : List Line) (answers : List Answer) (one : Given) (task : Task) → as_taken one ≡ record { class = task.worker; value = task.line }
    → IsScripted config lines answers task → IsHeld answers one → IsTaskOfLine config lines (questions_of lines) one task
task_given config lines answers one task same scripted is_given =
    let worker_is : task.worker ≡ one.worker = sym (ap (λ (v : Valued). v.class) same) in
    let number_is : task.line ≡ one.line = sym (ap (λ (v : Valued). v.value) same) in
    let there : Some is_given.answer ≡ Some scripted.answer =
    sym is_given.answer_is ∙ (ap (slice_get answers) (sym number_is) ∙ scripted.stands.answer_is) in
    let one_answer : is_given.answer ≡ scripted.answer = cc in
    let script : Script = record { operations = task.operations; fate = task.fate } in
    let held : one.answer ≡ without_keys scripted.answer = is_given.same ∙ ap without_keys one_answer in
    record {
      line = scripted.line;
      line_is = ap (slice_get lines) (sym number_is) ∙ scripted.stands.line_is;
      worker_is = worker_is;
      number_is = number_is;
      script = subst (λ answer. HasScript config (questions_of lines) scripted.line answer script) (sym held)
          (script_without_keys config (questions_of lines) scripted.line scripted.answer script scripted.script);
    }

-- what a report's tasks took is what was given, so they are its tasks
pub tasks_given : (config : Config) (lines : List Line) (answers : List Answer) (given : List Given) (tasks : List Task) → taken_by tasks ≡ map as_taken given
    → All (IsScripted config lines answers) tasks → All (IsHeld answers) given → AreTasks config lines (questions_of lines) given tasks
tasks_given config lines answers [] [] same scripted all = tt
tasks_given config lines answers [] (task ∷ tasks) same scripted all = absurd cc
tasks_given config lines answers (one ∷ given) [] same scripted all = absurd cc
tasks_given config lines answers (one ∷ given) (task ∷ tasks) same scripted all =
    let first : Valued = record { class = task.worker; value = task.line } in
    let heads : as_taken one ≡ first = cc in
    let tails : taken_by tasks ≡ map as_taken given = cc in
    let P : Given → Type 0 = λ one. IsHeld answers one in (
      task_given config lines answers one task heads (All-head (IsScripted config lines answers) task tasks scripted) (All-head (IsHeld answers) one given all),
      tasks_given config lines answers given tasks tails (All-tail (IsScripted config lines answers) task tasks scripted) (All-tail (IsHeld answers) one given all),
    )

-- ---- there are no other tasks

task_same : OneScript → (config : Config) (lines : List Line) (questions : List KeyOf) (one : Given) (task other : Task) → IsTaskOfLine config lines questions one task
    → IsTaskOfLine config lines questions one other → task ≡ other
task_same one_script config lines questions one task other is is_other =
    let there : Some is.line ≡ Some is_other.line = sym is.line_is ∙ is_other.line_is in
    let same_line : is.line ≡ is_other.line = cc in
    let script : Script = record { operations = task.operations; fate = task.fate } in
    let other_script : Script = record { operations = other.operations; fate = other.fate } in
    let scripts : script ≡ other_script =
    one_script config questions is_other.line one.answer script other_script
    (subst (λ line. HasScript config questions line one.answer script) same_line is.script) is_other.script in
    let workers : task.worker ≡ other.worker = is.worker_is ∙ sym is_other.worker_is in
    let numbers : task.line ≡ other.line = is.number_is ∙ sym is_other.number_is in
    λ i. record { worker = workers i; line = numbers i; fate = (scripts i).fate; operations = (scripts i).operations }

pub tasks_same : OneScript → (config : Config) (lines : List Line) (questions : List KeyOf) (given : List Given) (tasks others : List Task)
    → AreTasks config lines questions given tasks → AreTasks config lines questions given others → tasks ≡ others
tasks_same one_script config lines questions [] [] [] are are_others = refl
tasks_same one_script config lines questions [] [] (other ∷ others) are are_others = absurd are_others
tasks_same one_script config lines questions [] (task ∷ tasks) others are are_others = absurd are
tasks_same one_script config lines questions (one ∷ given) [] others are are_others = absurd are
tasks_same one_script config lines questions (one ∷ given) (task ∷ tasks) [] are are_others = absurd are_others
tasks_same one_script config lines questions (one ∷ given) (task ∷ tasks) (other ∷ others) are are_others =
    ap (λ t. t ∷ tasks) (task_same one_script config lines questions one task other are.0 are_others.0)
    ∙ ap (λ l. other ∷ l) (tasks_same one_script config lines questions given tasks others are.1 are_others.1)

-- ---- from complete answers to a report's

scripted_one : (config : Config) (lines : List Line) (answers : List Answer) (one : Given) (task : Task) (own : List Event)
    → IsTaskOfLine config lines (questions_of lines) one task → StandsComplete answers one own → IsScripted config lines answers task
scripted_one config lines answers one task own is stands =
    let script : Script = record { operations = task.operations; fate = task.fate } in
    record {
      line = is.line;
      answer = stands.answer;
      stands = record {
        line_is = ap (slice_get lines) is.number_is ∙ is.line_is;
        answer_is = ap (slice_get answers) is.number_is ∙ stands.answer_is;
      };
      script = script_with_keys config (questions_of lines) is.line stands.answer script
          (subst (λ answer. HasScript config (questions_of lines) is.line answer script) stands.completes.same is.script);
    }

pub scripted_all : (config : Config) (lines : List Line) (answers : List Answer) (given : List Given) (tasks : List Task) (events : List (List Event))
    → AreTasks config lines (questions_of lines) given tasks → AllZip (StandsComplete answers) given events → All (IsScripted config lines answers) tasks
scripted_all config lines answers [] [] events are stand = All-nil (IsScripted config lines answers)
scripted_all config lines answers [] (task ∷ tasks) events are stand = absurd are
scripted_all config lines answers (one ∷ given) [] events are stand = absurd are
scripted_all config lines answers (one ∷ given) (task ∷ tasks) [] are stand = absurd stand
scripted_all config lines answers (one ∷ given) (task ∷ tasks) (own ∷ events) are stand =
    All-cons (IsScripted config lines answers) task tasks (scripted_one config lines answers one task own are.0 stand.0)
    (scripted_all config lines answers given tasks events are.1 stand.1)
