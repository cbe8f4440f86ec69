-- SPDX-License-Identifier: MIT
-- the report that is made of what was handed in, and that there is none where a step finds none
use Rattle.std.proofs.Common.{◌≡◌, ℕ, List, [], ◌∷◌, length, map, Option, Some, None, refl, sym, ◌∙◌, ap, subst}
use Rattle.std.specs.Prelude.{IfSome, IfNone}
use Rattle.std.specs.List.{AllZip}
use Rattle.std.proofs.lemmas.List.{length-map}
use Rattle.std.proofs.lemmas.Slice.Zip.{AllZip-long}
use Rattle.rrc_history.specs.declared.event.Event.{Event}
use Rattle.rrc_history.specs.declared.rules.Rules.{Rules}
use Rattle.rrc_history.specs.Chains.{WholeOf}
use Rattle.rrc_share.specs.Shelf.{ShelfOf}
use Rattle.rrc_trace.specs.declared.line.Line.{Line}
use Rattle.rrc_trace.specs.declared.answer.Answer.{Answer}
use Rattle.rrc_trace.specs.Questions.{questions_of}
use Rattle.rrc_collate.specs.Drawn.{DrawnOf}
use Rattle.rrc_collate.specs.declared.task.Task.{Task}
use Rattle.rrc_collate.specs.Words.{AreSharedOut}
use Rattle.rrc_collate.specs.Collated.{histories_of, FitsHistories}
use Rattle.rrc_collate.specs.Tasks as of_tasks
use Rattle.rrc_script.specs.declared.config.Config.{Config}
use Rattle.rrc_report.specs.declared.done.Done.{Done}
use Rattle.rrc_report.specs.declared.report.Report.{Report}
use Rattle.rrc_script.specs.Scripts.{OneScript}
use Rattle.rrc_report.specs.Reports.{IsCollated, Holds, IsOfShelf, lines_done, taken_from}
use Rattle.rrc_report.specs.Collates.{Stray}
use Rattle.rrc_report.specs.Steps.{given_from, as_taken, AreTasks, AreFitting, ArePartHistories, AreComplete}
use Rattle.rrc_report.specs.Steps as steps
use Rattle.rrc_report.proofs.Tasked.{given_taken, tasks_taken, shares_taken}
use Rattle.rrc_report.proofs.Completed.{each_given, complete_gives, complete_answers, complete_from, told_of_given}
use Rattle.rrc_report.proofs.ReportTasks.{tasks_given, tasks_same, scripted_all}

-- ---- what was found, and what was not

pub some_of : {X : Type 0} (P : X → Type 0) (found : Option X) (x : X) → found ≡ Some x → IfSome found P → P x
some_of P found x is holds = subst (λ one. IfSome one P) is holds

pub none_of : {X : Type 0} (Q : Type 0) (found : Option X) → found ≡ None → IfNone found Q → Q
none_of Q found is holds = subst (λ one. IfNone one Q) is holds

pub some_by : {X : Type 0} (P Q : X → Type 0) (found : Option X) → ((x : X) → P x → Q x) → IfSome found P → IfSome found Q
some_by P Q None gives holds = tt
some_by P Q (Some x) gives holds = gives x holds

pub none_by : {X : Type 0} (P Q : Type 0) (found : Option X) → (P → Q) → IfNone found P → IfNone found Q
none_by P Q None gives holds = gives holds
none_by P Q (Some x) gives holds = tt

-- ---- the histories of shelves

pub histories_same : (shelves : List ShelfOf) (wholes others : List WholeOf) → AllZip IsOfShelf shelves wholes → AllZip IsOfShelf shelves others
    → histories_of wholes ≡ histories_of others
histories_same [] [] [] are are_others = refl
histories_same [] [] (other ∷ others) are are_others = absurd are_others
histories_same [] (whole ∷ wholes) others are are_others = absurd are
histories_same (shelf ∷ shelves) [] others are are_others = absurd are
histories_same (shelf ∷ shelves) (whole ∷ wholes) [] are are_others = absurd are_others
histories_same (shelf ∷ shelves) (whole ∷ wholes) (other ∷ others) are are_others =
    ap (λ h. h ∷ histories_of wholes) (are.0.events ∙ sym are_others.0.events)
    ∙ ap (λ l. other.events ∷ l) (histories_same shelves wholes others are.1 are_others.1)

pub parts_counted : (rules : Rules) (shelves : List ShelfOf) (wholes : List WholeOf) → ArePartHistories rules shelves wholes → length wholes ≡ length shelves
parts_counted rules shelves wholes parts = AllZip-long IsOfShelf shelves wholes parts.shelves_are

-- ---- what a report that holds what was handed in has

-- it has a share for each worker that did something, and a history for each shelf
pub count_stray : (config : Config) (lines : List Line) (shelves : List ShelfOf) (done : List Done) → (length done ≡ config.workers → length shelves ≡ config.parts → ⊥)
    → Stray config lines shelves done
count_stray config lines shelves done other report holds is =
    other (sym (length-map done lines_done) ∙ (sym (ap length holds.shares) ∙ is.shares))
    (sym (AllZip-long IsOfShelf shelves report.wholes holds.wholes) ∙ is.parts)

-- its tasks are those of what the workers say that they did
pub report_tasks : (config : Config) (lines : List Line) (shelves : List ShelfOf) (done : List Done) (report : Report) → Holds shelves done report
    → (is : IsCollated config lines report) → AreTasks config lines (questions_of lines) (given_from 0 done) is.tasks
report_tasks config lines shelves done report holds is =
    tasks_given config lines report.lines (given_from 0 done) is.tasks
    (is.taken ∙ (ap (taken_from 0) holds.shares ∙ sym (given_taken 0 done)))
    is.scripts (each_given report.lines 0 done holds.given)

-- its events fit the histories that were found
pub report_fits : (config : Config) (lines : List Line) (shelves : List ShelfOf) (done : List Done) (wholes : List WholeOf) → ArePartHistories config.rules shelves wholes
    → (report : Report) → Holds shelves done report → (is : IsCollated config lines report) → AreFitting config lines done (histories_of wholes) is.events
report_fits config lines shelves done wholes parts report holds is = record {
  tasks = is.tasks;
  tasks_are = report_tasks config lines shelves done report holds is;
  fits =
      subst (λ h. FitsHistories (length lines) config.workers is.tasks h is.events) (histories_same shelves report.wholes wholes holds.wholes parts.shelves_are) is.fits;
}

pub event_stray : (config : Config) (lines : List Line) (shelves : List ShelfOf) (done : List Done) (wholes : List WholeOf) → ArePartHistories config.rules shelves wholes
    → ((others : List (List Event)) → AreFitting config lines done (histories_of wholes) others → ⊥) → Stray config lines shelves done
event_stray config lines shelves done wholes parts none report holds is = none is.events (report_fits config lines shelves done wholes parts report holds is)

-- its answers complete those that were given
pub report_complete : (config : Config) (lines : List Line) (shelves : List ShelfOf) (done : List Done) (report : Report) → Holds shelves done report
    → (is : IsCollated config lines report) → AreComplete (length lines) (given_from 0 done) is.events report.lines
report_complete config lines shelves done report holds is =
    complete_from (length lines) done is.events report.lines is.answers holds.given
    (told_of_given config lines (questions_of lines) report.lines (given_from 0 done) is.tasks is.events
    (report_tasks config lines shelves done report holds is) is.told)

pub answer_stray : (config : Config) (lines : List Line) (shelves : List ShelfOf) (done : List Done) (wholes : List WholeOf) (events : List (List Event)) → ArePartHistories config.rules shelves wholes
    → ((others : List (List Event)) → AreFitting config lines done (histories_of wholes) others → others ≡ events)
    → ((answers : List Answer) → AreComplete (length lines) (given_from 0 done) events answers → ⊥) → Stray config lines shelves done
answer_stray config lines shelves done wholes events parts only none report holds is =
    none report.lines
    (subst (λ e. AreComplete (length lines) (given_from 0 done) e report.lines)
    (only is.events (report_fits config lines shelves done wholes parts report holds is))
    (report_complete config lines shelves done report holds is))

-- ---- the report that is made

pub found_collated : (config : Config) (lines : List Line) (shelves : List ShelfOf) (done : List Done) (events : List (List Event)) (report : Report) (count : ℕ)
    → length done ≡ config.workers → length shelves ≡ config.parts → count ≡ length lines → report.shares ≡ map lines_done done → ArePartHistories config.rules shelves report.wholes
    → AreFitting config lines done (histories_of report.wholes) events → AreComplete count (given_from 0 done) events report.lines → IsCollated config lines report
found_collated config lines shelves done events report count workers size is shares parts fit complete = record {
  tasks = fit.tasks;
  events = events;
  shares = ap length shares ∙ (length-map done lines_done ∙ workers);
  parts = parts_counted config.rules shelves report.wholes parts ∙ size;
  answers = complete.size ∙ is;
  histories = parts.parts_are;
  taken = shares_taken config lines (questions_of lines) done fit.tasks fit.tasks_are ∙ ap (taken_from 0) (sym shares);
  scripts = scripted_all config lines report.lines (given_from 0 done) fit.tasks events fit.tasks_are complete.each;
  fits = fit.fits;
  told = complete_answers config lines (questions_of lines) report.lines (given_from 0 done) fit.tasks events fit.tasks_are complete.each;
}

pub found_holds : (rules : Rules) (shelves : List ShelfOf) (done : List Done) (events : List (List Event)) (report : Report) (count : ℕ) → report.shares ≡ map lines_done done
    → ArePartHistories rules shelves report.wholes → AreComplete count (given_from 0 done) events report.lines → Holds shelves done report
found_holds rules shelves done events report count shares parts complete = record {
  shares = shares;
  given = complete_gives count done events report.lines complete;
  wholes = parts.shelves_are;
}

-- ---- what the completing of the answers asks for

pub given_shared_out : (config : Config) (lines : List Line) (done : List Done) (histories events : List (List Event)) → AreFitting config lines done histories events
    → AreSharedOut (length lines) (map as_taken (given_from 0 done))
given_shared_out config lines done histories events fit =
    subst (AreSharedOut (length lines)) (tasks_taken config lines (questions_of lines) (given_from 0 done) fit.tasks fit.tasks_are) fit.fits.ordered.shared_out

pub events_given : (config : Config) (lines : List Line) (done : List Done) (histories : List (List Event)) (events : List DrawnOf)
    → AreFitting config lines done histories (map (λ own. map (λ event. event.now) own.items) events) → length events ≡ length (given_from 0 done)
events_given config lines done histories events fit =
    let lists = map (λ (own : DrawnOf). map (λ event. event.now) own.items) events in
    sym (length-map events (λ (own : DrawnOf). map (λ event. event.now) own.items))
    ∙ (AllZip-long of_tasks.IsTaskOf fit.tasks lists fit.fits.ordered.calls
    ∙ AllZip-long (steps.IsTaskOfLine config lines (questions_of lines)) (given_from 0 done) fit.tasks fit.tasks_are)

-- ---- the events that fit

-- they fit the tasks that were found
pub fitting_tasks : OneScript → (config : Config) (lines : List Line) (done : List Done) (histories events : List (List Event)) (tasks : List Task) (count : ℕ)
    → AreTasks config lines (questions_of lines) (given_from 0 done) tasks → count ≡ length lines → AreFitting config lines done histories events
    → FitsHistories count config.workers tasks histories events
fitting_tasks one_script config lines done histories events tasks count are is fit =
    subst (λ n. FitsHistories n config.workers tasks histories events) (sym is)
    (subst (λ t. FitsHistories (length lines) config.workers t histories events)
    (tasks_same one_script config lines (questions_of lines) (given_from 0 done) fit.tasks tasks fit.tasks_are are) fit.fits)
