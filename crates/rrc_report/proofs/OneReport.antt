-- SPDX-License-Identifier: MIT
-- With one worker a trace has one report.
use Rattle.std.proofs.Common.{◌≡◌, ℕ, zero, suc, ◌+◌, ◌<◌, ◌≤◌, Bool, true, eqb, List, [], ◌∷◌, ◌++◌, map, reverse, length, get_or, slice_get, filter, Some, All, refl, sym, ap, subst, ◌∙◌, ⊎_elim, arith}
use Rattle.std.specs.List.{AllZip}
use Rattle.std.proofs.lemmas.Bool.{cases_eq, eq-eqb, cond-true}
use Rattle.rrc_history.specs.declared.event.Event.{Event}
use Rattle.rrc_history.specs.declared.rules.Rules.{Rules}
use Rattle.rrc_history.specs.declared.snapshot.Snapshot.{Snapshot}
use Rattle.rrc_history.specs.Chains.{WholeOf}
use Rattle.rrc_history.specs.Chapters.{IsClosing, LeadTo}
use Rattle.rrc_history.specs.Right.{IsLegal}
use Rattle.rrc_history.specs.lemmas.OneHistory.{one_contents}
use Rattle.rrc_trace.specs.declared.line.Line.{Line}
use Rattle.rrc_trace.specs.declared.answer.Answer.{Answer}
use Rattle.rrc_trace.specs.Questions.{questions_of}
use Rattle.rrc_collate.specs.declared.valued.Valued.{Valued}
use Rattle.rrc_collate.specs.declared.task.Task.{Task}
use Rattle.rrc_collate.specs.declared.task.Fate.{Fate}
use Rattle.rrc_collate.specs.declared.task.Fate.TheVariants as fates
use Rattle.rrc_collate.specs.Words.{AreSharedOut, class_of}
use Rattle.rrc_collate.specs.Calls.{tag_of, AreCalls, going_to}
use Rattle.rrc_collate.specs.Hands.{AreNamed, is_of}
use Rattle.rrc_collate.specs.Tasks.{IsTaskOf, written_by}
use Rattle.rrc_collate.specs.Collated.{taken_by, own_events, IsJoinedTo, histories_of}
use Rattle.rrc_script.specs.declared.config.Config.{Config}
use Rattle.rrc_report.specs.declared.report.Report.{Report}
use Rattle.rrc_report.specs.Answers.{IsTold}
use Rattle.rrc_report.specs.Reports.{empty_under, IsPartOf, taken_from, IsScripted, IsAnswered, IsCollated}
use Rattle.rrc_report.specs.OneWorker.{OneReportByOneWorker}
use Rattle.rrc_script.proofs.Scripted.{OneMessageOrFault}
use Rattle.rrc_report.proofs.OneRun.{AreRight, all_right, with_events, right_behind}
use Rattle.rrc_report.proofs.OneLine.{IsAlone, IsLineDone, AreSame, line_same}
use Rattle.rrc_report.proofs.OneTurn.{AreInTurn, AreFirst, all_between, in_turn, as_many, first_class, class_first}

some_is : {X : Type 0} (a b : X) → Some a ≡ Some b → a ≡ b
some_is a b is = cc

-- ---- a run of one worker

-- the tasks are lines one after another, the first of which is this, and what they wrote is right behind the pasts of the parts
record IsRun (config : Config) (lines : List Line) (answers : List Answer) (number : ℕ) (pasts : ℕ → List Event) (tasks : List Task) (events : List (List Event)) : Type 0 where
  turn : AreInTurn number (taken_by tasks)
  scripts : All (IsScripted config lines answers) tasks
  alone : All (λ (task : Task). IsAlone task.fate) tasks
  calls : AllZip IsTaskOf tasks events
  told : AllZip (IsAnswered answers) tasks events
  right : (part : ℕ) → part < config.parts → AreRight (empty_under config.rules) (pasts part) (written_by 0 part tasks events)

line_of : (config : Config) (lines : List Line) (answers : List Answer) (number : ℕ) (pasts : ℕ → List Event) (task : Task) (tasks : List Task) (own : List Event) (events : List (List Event))
    → IsRun config lines answers number pasts (task ∷ tasks) (own ∷ events) → IsScripted config lines answers task
line_of config lines answers number pasts task tasks own events run = run.scripts 0 task (omega arith)

number_of : (config : Config) (lines : List Line) (answers : List Answer) (number : ℕ) (pasts : ℕ → List Event) (task : Task) (tasks : List Task) (own : List Event) (events : List (List Event))
    → IsRun config lines answers number pasts (task ∷ tasks) (own ∷ events) → task.line ≡ number
number_of config lines answers number pasts task tasks own events run = ap (λ (v : Valued). v.value) run.turn.0

-- what the first task and the others write
written_first : (config : Config) (lines : List Line) (answers : List Answer) (number : ℕ) (pasts : ℕ → List Event) (task : Task) (tasks : List Task) (own : List Event) (events : List (List Event)) (part : ℕ)
    → IsRun config lines answers number pasts (task ∷ tasks) (own ∷ events)
    → written_by 0 part (task ∷ tasks) (own ∷ events) ≡ going_to part task.operations own ++ written_by 0 part tasks events
written_first config lines answers number pasts task tasks own events part run =
    let worker : task.worker ≡ 0 = ap (λ (v : Valued). v.class) run.turn.0 in
    let behind = written_by 0 part tasks events in
    cond-true (eqb task.worker 0) (going_to part task.operations own ++ behind) behind (eq-eqb task.worker 0 worker)

first_done : (config : Config) (lines : List Line) (answers : List Answer) (number : ℕ) (pasts : ℕ → List Event) (task : Task) (tasks : List Task) (own : List Event) (events : List (List Event))
    (scripted : IsScripted config lines answers task) → IsRun config lines answers number pasts (task ∷ tasks) (own ∷ events)
    → IsLineDone (empty_under config.rules) config (questions_of lines) pasts number scripted.line scripted.answer task.operations own
first_done config lines answers number pasts task tasks own events scripted run =
    record {
      fate = task.fate;
      behind = λ part. written_by 0 part tasks events;
      script = scripted.script;
      alone = run.alone 0 task (omega arith);
      calls = subst (λ n. AreCalls n 0 task.operations own) (number_of config lines answers number pasts task tasks own events run) run.calls.0;
      told = subst (λ a. IsTold a own) (some_is run.told.0.answer scripted.answer (sym run.told.0.answer_is ∙ scripted.stands.answer_is)) run.told.0.told;
      right = λ part below. subst (λ es. AreRight (empty_under config.rules) (pasts part) es) (written_first config lines answers number pasts task tasks own events part run) (run.right part below);
    }

others_run : (config : Config) (lines : List Line) (answers : List Answer) (number : ℕ) (pasts : ℕ → List Event) (task : Task) (tasks : List Task) (own : List Event) (events : List (List Event))
    → IsRun config lines answers number pasts (task ∷ tasks) (own ∷ events) → IsRun config lines answers (number + 1) (with_events pasts task.operations own) tasks events
others_run config lines answers number pasts task tasks own events run =
    record {
      turn = run.turn.1;
      scripts = λ k d within. run.scripts (suc k) d (omega (arith, within));
      alone = λ k d within. run.alone (suc k) d (omega (arith, within));
      calls = run.calls.1;
      told = run.told.1;
      right = right_behind (empty_under config.rules) config.parts task.line 0 pasts task.operations own (λ part. written_by 0 part tasks events) run.calls.0
          (λ part below. subst (λ es. AreRight (empty_under config.rules) (pasts part) es) (written_first config lines answers number pasts task tasks own events part run) (run.right part below));
    }

-- ---- two runs are one

-- two runs gave the lines from this one on the same answers, and wrote the same
record AreOne (answers others : List Answer) (number : ℕ) (tasks also : List Task) (events later : List (List Event)) : Type 0 where
  answers_are : (k : ℕ) → number ≤ k → k < number + length tasks → slice_get answers k ≡ slice_get others k
  written : (part : ℕ) → written_by 0 part tasks events ≡ written_by 0 part also later

first_same : OneMessageOrFault → (config : Config) (lines : List Line) (answers others : List Answer) (number : ℕ) (pasts : ℕ → List Event) (task other : Task) (tasks also : List Task)
    (own other_own : List Event) (events later : List (List Event)) (scripted : IsScripted config lines answers task) (other_scripted : IsScripted config lines others other)
    → IsRun config lines answers number pasts (task ∷ tasks) (own ∷ events) → IsRun config lines others number pasts (other ∷ also) (other_own ∷ later)
    → AreSame scripted.answer other_scripted.answer task.operations other.operations own other_own
first_same law config lines answers others number pasts task other tasks also own other_own events later scripted other_scripted run other_run =
    let there : slice_get lines number ≡ Some scripted.line =
    ap (slice_get lines) (sym (number_of config lines answers number pasts task tasks own events run)) ∙ scripted.stands.line_is in
    let other_there : slice_get lines number ≡ Some other_scripted.line =
    ap (slice_get lines) (sym (number_of config lines others number pasts other also other_own later other_run)) ∙ other_scripted.stands.line_is in
    let line : other_scripted.line ≡ scripted.line = some_is other_scripted.line scripted.line (sym other_there ∙ there) in
    line_same law (empty_under config.rules) config (questions_of lines) pasts number scripted.line scripted.answer other_scripted.answer task.operations other.operations own other_own
    config.some_parts
    (first_done config lines answers number pasts task tasks own events scripted run)
    (subst (λ l. IsLineDone (empty_under config.rules) config (questions_of lines) pasts number l other_scripted.answer other.operations other_own) line
    (first_done config lines others number pasts other also other_own later other_scripted other_run))

-- behind the same first tasks, the other run is behind the same pasts
behind_same : (config : Config) (lines : List Line) (others : List Answer) (number : ℕ) (pasts : ℕ → List Event) (task other : Task) (also : List Task) (own other_own : List Event)
    (later : List (List Event)) → task.operations ≡ other.operations → own ≡ other_own → IsRun config lines others number pasts (other ∷ also) (other_own ∷ later)
    → IsRun config lines others (number + 1) (with_events pasts task.operations own) also later
behind_same config lines others number pasts task other also own other_own later operations_are events_are run =
    subst (λ es. IsRun config lines others (number + 1) (with_events pasts task.operations es) also later) (sym events_are)
    (subst (λ os. IsRun config lines others (number + 1) (with_events pasts os other_own) also later) (sym operations_are)
    (others_run config lines others number pasts other also other_own later run))

-- runs whose first tasks and whose other tasks are one are one
more_are_one : (config : Config) (lines : List Line) (answers others : List Answer) (number : ℕ) (pasts : ℕ → List Event) (task other : Task) (tasks also : List Task)
    (own other_own : List Event) (events later : List (List Event)) (scripted : IsScripted config lines answers task) (other_scripted : IsScripted config lines others other)
    → IsRun config lines answers number pasts (task ∷ tasks) (own ∷ events) → IsRun config lines others number pasts (other ∷ also) (other_own ∷ later)
    → AreSame scripted.answer other_scripted.answer task.operations other.operations own other_own → AreOne answers others (number + 1) tasks also events later
    → AreOne answers others number (task ∷ tasks) (other ∷ also) (own ∷ events) (other_own ∷ later)
more_are_one config lines answers others number pasts task other tasks also own other_own events later scripted other_scripted run other_run same rest =
    record { answers_are = answers_are; written = written }
  where
    first_answers : slice_get answers number ≡ slice_get others number
    first_answers =
        ap (slice_get answers) (sym (number_of config lines answers number pasts task tasks own events run))
        ∙ (scripted.stands.answer_is
        ∙ (ap Some same.answers_are
        ∙ (sym other_scripted.stands.answer_is ∙ ap (slice_get others) (number_of config lines others number pasts other also other_own later other_run))))

    answers_are : (k : ℕ) → number ≤ k → k < number + length (task ∷ tasks) → slice_get answers k ≡ slice_get others k
    answers_are k low high =
        ⊎_elim
        (λ (is : k ≡ number). subst (λ n. slice_get answers n ≡ slice_get others n) (sym is) first_answers)
        (λ (apart : k ≡ number → ⊥). rest.answers_are k (omega (arith, low, apart)) (omega (arith, high)))
        (cases_eq k number)

    written : (part : ℕ) → written_by 0 part (task ∷ tasks) (own ∷ events) ≡ written_by 0 part (other ∷ also) (other_own ∷ later)
    written part =
        written_first config lines answers number pasts task tasks own events part run
        ∙ (ap (λ os. going_to part os own ++ written_by 0 part tasks events) same.operations_are
        ∙ (ap (λ es. going_to part other.operations es ++ written_by 0 part tasks events) same.events_are
        ∙ (ap (λ es. going_to part other.operations other_own ++ es) (rest.written part)
        ∙ sym (written_first config lines others number pasts other also other_own later part other_run))))

runs_are_one : OneMessageOrFault → (config : Config) (lines : List Line) (answers others : List Answer) (number : ℕ) (pasts : ℕ → List Event) (tasks also : List Task) (events later : List (List Event))
    → length tasks ≡ length also → IsRun config lines answers number pasts tasks events → IsRun config lines others number pasts also later
    → AreOne answers others number tasks also events later
runs_are_one law config lines answers others number pasts [] [] events later size run other_run =
    record { answers_are = λ k low high. absurd (omega (arith, low, high)); written = λ part. refl }
runs_are_one law config lines answers others number pasts [] (other ∷ also) events later size run other_run = absurd (omega (arith, size))
runs_are_one law config lines answers others number pasts (task ∷ tasks) [] events later size run other_run = absurd (omega (arith, size))
runs_are_one law config lines answers others number pasts (task ∷ tasks) (other ∷ also) [] later size run other_run = absurd run.calls
runs_are_one law config lines answers others number pasts (task ∷ tasks) (other ∷ also) (own ∷ events) [] size run other_run = absurd other_run.calls
runs_are_one law config lines answers others number pasts (task ∷ tasks) (other ∷ also) (own ∷ events) (other_own ∷ later) size run other_run =
    let scripted = line_of config lines answers number pasts task tasks own events run in
    let other_scripted = line_of config lines others number pasts other also other_own later other_run in
    let same = first_same law config lines answers others number pasts task other tasks also own other_own events later scripted other_scripted run other_run in
    let rest = runs_are_one law config lines answers others (number + 1) (with_events pasts task.operations own) tasks also events later (omega (arith, size))
    (others_run config lines answers number pasts task tasks own events run)
    (behind_same config lines others number pasts task other also own other_own later same.operations_are same.events_are other_run) in
    more_are_one config lines answers others number pasts task other tasks also own other_own events later scripted other_scripted run other_run same rest

-- ---- what was collated with one worker is such a run

as_many_tasks : (tasks : List Task) → length (taken_by tasks) ≡ length tasks
as_many_tasks [] = refl
as_many_tasks (task ∷ tasks) = ap suc (as_many_tasks tasks)

as_many_histories : (wholes : List WholeOf) → length (histories_of wholes) ≡ length wholes
as_many_histories [] = refl
as_many_histories (whole ∷ wholes) = ap suc (as_many_histories wholes)

first_workers : (tasks : List Task) → AreFirst (taken_by tasks) → All (λ (task : Task). task.worker ≡ 0) tasks
first_workers [] first k d within = absurd (omega (arith, within))
first_workers (task ∷ tasks) first zero d within = first 0 (record { class = 0; value = 0 }) (omega arith)
first_workers (task ∷ tasks) first (suc k) d within = first_workers tasks (λ j e inside. first (suc j) e (omega (arith, inside))) k d (omega (arith, within))

-- a worker alone has nobody to join
no_other : (tasks : List Task) (worker : ℕ) (fate : Fate) → All (λ (task : Task). task.worker ≡ 0) tasks → worker ≡ 0 → IsJoinedTo tasks worker fate → IsAlone fate
no_other tasks worker fates.Plain workers first joined = tt
no_other tasks worker (fates.Fetched question home) workers first joined = tt
no_other tasks worker (fates.Joined question) workers first joined =
    joined.other (ap (λ (t : Task). t.worker) (sym joined.is_task.2) ∙ (workers joined.is_task.0 joined.fetcher joined.is_task.1 ∙ sym first))

all_kept : {X : Type 0} (p : X → Bool) (xs : List X) → All (λ x. p x ≡ true) xs → filter p xs ≡ xs
all_kept p [] all = refl
all_kept p (x ∷ xs) all =
    cond-true (p x) (x ∷ filter p xs) (filter p xs) (all 0 x (omega arith)) ∙ ap (λ l. x ∷ l) (all_kept p xs (λ k d within. all (suc k) d (omega (arith, within))))

-- every event is of a line of its
all_own : (count : ℕ) (tasks : List Task) (history : List Event) → AreFirst (taken_by tasks) → AreSharedOut count (taken_by tasks) → AreNamed count history → own_events 0 tasks history ≡ history
all_own count tasks history first shared named =
    all_kept (λ (event : Event). is_of 0 (class_of (tag_of event).line (taken_by tasks))) history
    (λ k d within.
    let line = (tag_of (get_or history k d)).line in
    ap (is_of 0) (class_first line (taken_by tasks) first (shared.each line (named k d within))))

legal_at : (rules : Rules) (wholes : List WholeOf) (part : ℕ) → All (IsPartOf rules) wholes → part < length wholes → IsLegal (empty_under rules) (reverse (get_or (histories_of wholes) part []))
legal_at rules [] part all within = absurd (omega (arith, within))
legal_at rules (whole ∷ wholes) zero all within =
    let here = all 0 whole (omega arith) in
    subst (λ s. IsLegal s (reverse whole.events)) here.opening here.leads.legal
legal_at rules (whole ∷ wholes) (suc part) all within = legal_at rules wholes part (λ k d inside. all (suc k) d (omega (arith, inside))) (omega (arith, within))

first_taken : (config : Config) (lines : List Line) (report : Report) → config.workers ≡ 1 → (is : IsCollated config lines report) → AreFirst (taken_by is.tasks)
first_taken config lines report one is = subst AreFirst (sym is.taken) (first_class report.shares (is.shares ∙ one))

-- a part's history is what the worker wrote
written_is : (config : Config) (lines : List Line) (report : Report) → config.workers ≡ 1 → (is : IsCollated config lines report) → (part : ℕ) → part < config.parts
    → get_or (histories_of report.wholes) part [] ≡ written_by 0 part is.tasks is.events
written_is config lines report one is part below =
    let histories = histories_of report.wholes in
    let size = as_many_histories report.wholes in
    let parts = is.parts in
    let within : part < length histories = omega (arith, below, size, parts) in
    sym (all_own (length lines) is.tasks (get_or histories part []) (first_taken config lines report one is) is.fits.ordered.shared_out (is.fits.ordered.named part [] within))
    ∙ is.fits.ordered.in_order 0 part (omega (arith, one)) within

run_of : (config : Config) (lines : List Line) (report : Report) → config.workers ≡ 1 → (is : IsCollated config lines report)
    → IsRun config lines report.lines 0 (λ part. []) is.tasks is.events
run_of config lines report one is =
    let first = first_taken config lines report one is in
    let workers = first_workers is.tasks first in
    let count = length lines in
    record {
      turn = in_turn count 0 (taken_by is.tasks) (all_between count (taken_by is.tasks) first is.fits.ordered.shared_out is.fits.ordered.rising);
      scripts = is.scripts;
      alone = λ k d within. no_other is.tasks (get_or is.tasks k d).worker (get_or is.tasks k d).fate workers (workers k d within) (is.fits.joined k d within);
      calls = is.fits.ordered.calls;
      told = is.told;
      right = λ part below.
          let size = is.parts in
          subst (λ es. AreRight (empty_under config.rules) [] es) (written_is config lines report one is part below)
          (all_right (empty_under config.rules) (get_or (histories_of report.wholes) part []) (legal_at config.rules report.wholes part is.histories (omega (arith, below, size))));
    }

task_count : (config : Config) (lines : List Line) (report : Report) → config.workers ≡ 1 → (is : IsCollated config lines report) → length is.tasks ≡ length lines
task_count config lines report one is =
    let first = first_taken config lines report one is in
    let many = as_many (length lines) 0 (taken_by is.tasks) (omega arith) (all_between (length lines) (taken_by is.tasks) first is.fits.ordered.shared_out is.fits.ordered.rising) in
    let tasks = as_many_tasks is.tasks in
    omega (arith, many, tasks)

-- ---- one report

-- lists that are as long, and have the same at each place, are one
same_lists : {X : Type 0} (xs ys : List X) → length xs ≡ length ys → ((k : ℕ) → k < length xs → slice_get xs k ≡ slice_get ys k) → xs ≡ ys
same_lists [] [] size same = refl
same_lists [] (y ∷ ys) size same = absurd (omega (arith, size))
same_lists (x ∷ xs) [] size same = absurd (omega (arith, size))
same_lists (x ∷ xs) (y ∷ ys) size same =
    let first : x ≡ y = some_is x y (same 0 (omega arith)) in
    let rest : xs ≡ ys = same_lists xs ys (omega (arith, size)) (λ k within. same (suc k) (omega (arith, within))) in
    λ i. first i ∷ rest i

-- what is in turn is so in one way
turns_same : (number : ℕ) (values others : List Valued) → length values ≡ length others → AreInTurn number values → AreInTurn number others → values ≡ others
turns_same number [] [] size turn other_turn = refl
turns_same number [] (other ∷ others) size turn other_turn = absurd (omega (arith, size))
turns_same number (valued ∷ values) [] size turn other_turn = absurd (omega (arith, size))
turns_same number (valued ∷ values) (other ∷ others) size turn other_turn =
    let first : valued ≡ other = turn.0 ∙ sym other_turn.0 in
    let rest : values ≡ others = turns_same (number + 1) values others (omega (arith, size)) turn.1 other_turn.1 in
    λ i. first i ∷ rest i

abbrev by_first : ℕ → Valued
by_first line = record { class = 0; value = line }

heads : {X : Type 0} (x y : X) (xs ys : List X) → x ∷ xs ≡ y ∷ ys → (x ≡ y) × (xs ≡ ys)
heads x y xs ys is = (cc, cc)

share_same : (share other : List ℕ) → map by_first share ++ [] ≡ map by_first other ++ [] → share ≡ other
share_same [] [] is = refl
share_same [] (line ∷ other) is = absurd cc
share_same (line ∷ share) [] is = absurd cc
share_same (line ∷ share) (also ∷ other) is =
    let parts = heads (by_first line) (by_first also) (map by_first share ++ []) (map by_first other ++ []) is in
    let first : line ≡ also = ap (λ (v : Valued). v.value) parts.0 in
    let rest : share ≡ other = share_same share other parts.1 in
    λ i. first i ∷ rest i

-- the share of a worker alone is told by what it took
shares_same : (shares others : List (List ℕ)) → length shares ≡ 1 → length others ≡ 1 → taken_from 0 shares ≡ taken_from 0 others → shares ≡ others
shares_same [] others size other_size is = absurd (omega (arith, size))
shares_same (share ∷ (next ∷ shares)) others size other_size is = absurd (omega (arith, size))
shares_same (share ∷ []) [] size other_size is = absurd (omega (arith, other_size))
shares_same (share ∷ []) (other ∷ (next ∷ others)) size other_size is = absurd (omega (arith, other_size))
shares_same (share ∷ []) (other ∷ []) size other_size is = ap (λ l. l ∷ []) (share_same share other is)

-- a past leads to one closing
closing_same : (snapshot : Snapshot) (past : List Event) (closing other : Snapshot) → IsClosing snapshot past closing → IsClosing snapshot past other → closing ≡ other
closing_same snapshot past closing other closes other_closes =
    let rules = closes.rules ∙ sym other_closes.rules in
    let first = closes.first ∙ sym other_closes.first in
    let entries = one_contents snapshot past closing.entries other.entries closes.contents other_closes.contents in
    λ i. record { rules = rules i; first = first i; entries = entries i }

-- events are those of one history of a part
whole_same : (rules : Rules) (whole other : WholeOf) → whole.events ≡ other.events → IsPartOf rules whole → IsPartOf rules other → whole ≡ other
whole_same rules whole other events part other_part =
    let snapshot = part.opening ∙ sym other_part.opening in
    let leads : LeadTo (empty_under rules) other.events whole.closing =
    subst (λ es. LeadTo (empty_under rules) es whole.closing) events (subst (λ s. LeadTo s whole.events whole.closing) part.opening part.leads) in
    let other_leads : LeadTo (empty_under rules) other.events other.closing = subst (λ s. LeadTo s other.events other.closing) other_part.opening other_part.leads in
    let closing = closing_same (empty_under rules) (reverse other.events) whole.closing other.closing leads.closes other_leads.closes in
    λ i. record { snapshot = snapshot i; events = events i; closing = closing i }

wholes_same : (rules : Rules) (wholes others : List WholeOf) → length wholes ≡ length others → All (IsPartOf rules) wholes → All (IsPartOf rules) others
    → ((part : ℕ) → part < length wholes → get_or (histories_of wholes) part [] ≡ get_or (histories_of others) part []) → wholes ≡ others
wholes_same rules [] [] size parts other_parts same = refl
wholes_same rules [] (other ∷ others) size parts other_parts same = absurd (omega (arith, size))
wholes_same rules (whole ∷ wholes) [] size parts other_parts same = absurd (omega (arith, size))
wholes_same rules (whole ∷ wholes) (other ∷ others) size parts other_parts same =
    let first : whole ≡ other = whole_same rules whole other (same 0 (omega arith)) (parts 0 whole (omega arith)) (other_parts 0 other (omega arith)) in
    let rest : wholes ≡ others =
    wholes_same rules wholes others (omega (arith, size)) (λ k d within. parts (suc k) d (omega (arith, within))) (λ k d within. other_parts (suc k) d (omega (arith, within)))
    (λ part within. same (suc part) (omega (arith, within))) in
    λ i. first i ∷ rest i

pub one_report : OneMessageOrFault → OneReportByOneWorker
one_report law config lines report other one is other_is = λ i. record { lines = answers_are i; shares = shares_are i; wholes = wholes_are i }
  where
    run : IsRun config lines report.lines 0 (λ part. []) is.tasks is.events
    run = run_of config lines report one is

    other_run : IsRun config lines other.lines 0 (λ part. []) other_is.tasks other_is.events
    other_run = run_of config lines other one other_is

    size : length is.tasks ≡ length other_is.tasks
    size = task_count config lines report one is ∙ sym (task_count config lines other one other_is)

    same : AreOne report.lines other.lines 0 is.tasks other_is.tasks is.events other_is.events
    same = runs_are_one law config lines report.lines other.lines 0 (λ part. []) is.tasks other_is.tasks is.events other_is.events size run other_run

    answers_are : report.lines ≡ other.lines
    answers_are =
        let count = task_count config lines report one is in
        let answers = is.answers in
        same_lists report.lines other.lines (answers ∙ sym other_is.answers) (λ k within. same.answers_are k (omega arith) (omega (arith, within, answers, count)))

    shares_are : report.shares ≡ other.shares
    shares_are =
        let taken = turns_same 0 (taken_by is.tasks) (taken_by other_is.tasks) (as_many_tasks is.tasks ∙ (size ∙ sym (as_many_tasks other_is.tasks))) run.turn other_run.turn in
        shares_same report.shares other.shares (is.shares ∙ one) (other_is.shares ∙ one) (sym is.taken ∙ (taken ∙ other_is.taken))

    wholes_are : report.wholes ≡ other.wholes
    wholes_are =
        wholes_same config.rules report.wholes other.wholes (is.parts ∙ sym other_is.parts) is.histories other_is.histories
        (λ part within.
        let parts = is.parts in
        let below : part < config.parts = omega (arith, within, parts) in
        written_is config lines report one is part below ∙ (same.written part ∙ sym (written_is config lines other one other_is part below)))
