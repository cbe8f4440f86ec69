-- SPDX-License-Identifier: MIT
-- What the tasks of workers are known to be: their workers, parts and questions are within their bounds, and their lines are the workers'.
use Rattle.std.proofs.Common.{◌≡◌, ◌<◌, ◌≤◌, ℕ, zero, suc, ◌+◌, List, [], ◌∷◌, ◌++◌, length, map, Some, refl, sym, ap, subst, ◌∙◌, arith}
use Rattle.std.specs.List.{All, AllZip}
use Rattle.std.proofs.lemmas.List.{map-append}
use Rattle.std.proofs.lemmas.List.Elements.{All-nil, All-cons, All-head, All-tail, All-append, All-map}
use Rattle.std.proofs.lemmas.List.Quantifiers.{position-Some}
use Rattle.rrc_name.specs.Key.{KeyOf, key_eq}
use Rattle.rrc_history.specs.Fits.{OfferOf}
use Rattle.rrc_name.specs.Parts.{part_of}
use Rattle.rrc_name.specs.Wire.{folded}
use Rattle.rrc_trace.specs.declared.line.Line.{Line}
use Rattle.rrc_trace.specs.declared.line.Line.TheVariants as lines
use Rattle.rrc_trace.specs.declared.line.Fetch.{Fetch}
use Rattle.rrc_trace.specs.declared.answer.Answer.{Answer}
use Rattle.rrc_trace.specs.declared.answer.Answer.TheVariants as answers
use Rattle.rrc_trace.specs.Questions.{question_of, number_among}
use Rattle.rrc_collate.specs.declared.script.Operation.{Operation}
use Rattle.rrc_collate.specs.declared.task.Task.{Task}
use Rattle.rrc_collate.specs.Fetches.{IsNumbered}
use Rattle.rrc_collate.specs.Collated.{taken_by}
use Rattle.rrc_script.specs.declared.config.Config.{Config}
use Rattle.rrc_report.specs.declared.done.Answered.{Answered}
use Rattle.rrc_report.specs.declared.done.Done.{Done}
use Rattle.rrc_script.specs.declared.script.Script.{Script}
use Rattle.rrc_script.specs.Scripts.{offer_of, failure_of, offering, asking, sweeping, first_ask, last_ask, fetching, HasScript}
use Rattle.rrc_report.specs.Reports.{lines_done, taken_from}
use Rattle.rrc_report.specs.Steps.{Given, given_by, given_from, as_taken, IsTaskOfLine, AreTasks}

-- what a relation gives of each element of the other list
each_of : {A B : Type 0} (R : A → B → Type 0) (P : A → Type 0) (Q : B → Type 0) (xs : List A) (ys : List B) → ((x : A) (y : B) → R x y → P x → Q y)
    → AllZip R xs ys → All P xs → All Q ys
each_of R P Q [] [] step are each = All-nil Q
each_of R P Q [] (y ∷ ys) step are each = absurd are
each_of R P Q (x ∷ xs) [] step are each = absurd are
each_of R P Q (x ∷ xs) (y ∷ ys) step are each =
    All-cons Q y ys (step x y are.0 (All-head P x xs each)) (each_of R P Q xs ys step are.1 (All-tail P x xs each))

-- of everything
abbrev Anything : {A : Type 0} → A → Type 0
Anything x = Unit {0}

-- ---- workers

-- so many workers, the first of which has this number
abbrev IsAmong : ℕ → Given → Type 0
IsAmong end given = given.worker < end

given_below : (worker end : ℕ) (done : List Done) → worker + length done ≤ end → All (IsAmong end) (given_from worker done)
given_below worker end [] few = All-nil (IsAmong end)
given_below worker end (one ∷ done) few =
    let here : worker < end = omega (arith, few) in
    let rest : All (IsAmong end) (given_from (worker + 1) done) = given_below (worker + 1) end done (omega (arith, few)) in
    All-append (IsAmong end) (map (given_by worker) one.answers) (given_from (worker + 1) done)
    (All-map (IsAmong end) (given_by worker) one.answers (λ k d within. here)) rest

-- the worker of each task is one of the workers
pub workers_below : (config : Config) (lines : List Line) (questions : List KeyOf) (done : List Done) (tasks : List Task) → length done ≡ config.workers
    → AreTasks config lines questions (given_from 0 done) tasks → All (λ task. task.worker < config.workers) tasks
workers_below config lines questions done tasks size are =
    each_of (IsTaskOfLine config lines questions) (IsAmong config.workers) (λ task. task.worker < config.workers) (given_from 0 done) tasks
    (λ given task is below. subst (λ worker. worker < config.workers) (sym is.worker_is) below) are
    (given_below 0 config.workers done (omega (arith, size)))

-- ---- parts

abbrev GoesTo : ℕ → Operation → Type 0
GoesTo parts operation = operation.part < parts

part_below : (name : List ℕ) (parts : ℕ) → 1 ≤ parts → part_of name parts < parts
part_below name parts some = omega (arith, some)

sweeps_below : (moment part count parts : ℕ) → part + count ≤ parts → All (GoesTo parts) (sweeping moment part count)
sweeps_below moment part zero parts few = All-nil (GoesTo parts)
sweeps_below moment part (suc count) parts few =
    All-cons (GoesTo parts) _ (sweeping moment (part + 1) count) (omega (arith, few)) (sweeps_below moment (part + 1) count parts (omega (arith, few)))

one_below : (parts : ℕ) (operation : Operation) → operation.part < parts → All (GoesTo parts) (operation ∷ [])
one_below parts operation below = All-cons (GoesTo parts) operation [] below (All-nil (GoesTo parts))

offers_below : (parts : ℕ) (offers : List OfferOf) → 1 ≤ parts → All (GoesTo parts) (map (offering parts) offers)
offers_below parts [] some = All-nil (GoesTo parts)
offers_below parts (offer ∷ offers) some =
    All-cons (GoesTo parts) (offering parts offer) (map (offering parts) offers) (part_below offer.key.name parts some) (offers_below parts offers some)

fetches_below : (parts : ℕ) (fetch : Fetch) (offers : List OfferOf) → 1 ≤ parts → All (GoesTo parts) (fetching parts fetch offers)
fetches_below parts fetch offers some =
    let ask : part_of (folded fetch.name) parts < parts = part_below (folded fetch.name) parts some in
    All-cons (GoesTo parts) (first_ask parts fetch) (map (offering parts) offers ++ last_ask parts fetch ∷ []) ask
    (All-append (GoesTo parts) (map (offering parts) offers) (last_ask parts fetch ∷ []) (offers_below parts offers some)
    (one_below parts (last_ask parts fetch) ask))

of_same : (parts : ℕ) (script other : Script) → script ≡ other → All (GoesTo parts) other.operations → All (GoesTo parts) script.operations
of_same parts script other is below = subst (λ (s : Script). All (GoesTo parts) s.operations) (sym is) below

-- an operation of a script goes to one of the parts
script_below : (config : Config) (questions : List KeyOf) (line : Line) (answer : Answer) (script : Script) → 1 ≤ config.parts
    → HasScript config questions line answer script → All (GoesTo config.parts) script.operations
script_below config questions (lines.Put put) (answers.Put told) script some is =
    of_same config.parts script _ is
    (one_below config.parts (offering config.parts (offer_of config.limits put)) (part_below (folded put.name) config.parts some))
script_below config questions (lines.Ask ask) (answers.Ask reply) script some is =
    of_same config.parts script _ is (one_below config.parts (asking config.parts ask) (part_below ask.name config.parts some))
script_below config questions (lines.Fail failed) (answers.Fail told) script some is =
    of_same config.parts script _ is
    (one_below config.parts (offering config.parts (failure_of config.limits failed.moment failed.name failed.class failed.rtype))
    (part_below (folded failed.name) config.parts some))
script_below config questions (lines.Response response) (answers.Response told) script some is =
    of_same config.parts script _ is.is (offers_below config.parts is.offers some)
script_below config questions (lines.Response response) (answers.Refused number) script some is =
    of_same config.parts script _ is.1 (All-nil (GoesTo config.parts))
script_below config questions (lines.Fetch fetch) (answers.Hit reply) script some is =
    of_same config.parts script _ is (one_below config.parts (first_ask config.parts fetch) (part_below (folded fetch.name) config.parts some))
script_below config questions (lines.Fetch fetch) (answers.Held moment) script some is =
    of_same config.parts script _ is (one_below config.parts (first_ask config.parts fetch) (part_below (folded fetch.name) config.parts some))
script_below config questions (lines.Fetch fetch) answers.Joined script some is =
    of_same config.parts script _ is.is (one_below config.parts (first_ask config.parts fetch) (part_below (folded fetch.name) config.parts some))
script_below config questions (lines.Fetch fetch) (answers.Fetched told reply) script some is =
    of_same config.parts script _ is.is (fetches_below config.parts fetch is.offers some)
script_below config questions (lines.Sweep moment) (answers.Swept counts) script some is =
    of_same config.parts script _ is (sweeps_below moment 0 config.parts config.parts (omega arith))
script_below config questions lines.Checkpoint answers.Closed script some is = of_same config.parts script _ is (All-nil (GoesTo config.parts))
script_below config questions line answer script some is = absurd is

-- each operation of each task goes to one of the parts
pub parts_below : (config : Config) (lines : List Line) (questions : List KeyOf) (given : List Given) (tasks : List Task)
    → AreTasks config lines questions given tasks → All (λ task. All (λ operation. operation.part < config.parts) task.operations) tasks
parts_below config lines questions given tasks are =
    each_of (IsTaskOfLine config lines questions) Anything (λ task. All (GoesTo config.parts) task.operations) given tasks
    (λ given task is any.
    script_below config questions is.line given.answer (record { operations = task.operations; fate = task.fate }) config.some_parts is.script)
    are (λ k d within. tt)

-- ---- questions

number_below : (questions : List KeyOf) (question : KeyOf) (number : ℕ) → number_among questions question ≡ Some number → number < length questions
number_below questions question number is = (position-Some (key_eq question) questions number question is).0

fate_same : (count : ℕ) (script other : Script) → script ≡ other → IsNumbered count other.fate → IsNumbered count script.fate
fate_same count script other is numbered = subst (λ (s : Script). IsNumbered count s.fate) (sym is) numbered

-- the question of a script is one of those that are numbered
script_numbered : (config : Config) (questions : List KeyOf) (line : Line) (answer : Answer) (script : Script) → HasScript config questions line answer script
    → IsNumbered (length questions) script.fate
script_numbered config questions (lines.Put put) (answers.Put told) script is = fate_same (length questions) script _ is tt
script_numbered config questions (lines.Ask ask) (answers.Ask reply) script is = fate_same (length questions) script _ is tt
script_numbered config questions (lines.Fail failed) (answers.Fail told) script is = fate_same (length questions) script _ is tt
script_numbered config questions (lines.Response response) (answers.Response told) script is = fate_same (length questions) script _ is.is tt
script_numbered config questions (lines.Response response) (answers.Refused number) script is = fate_same (length questions) script _ is.1 tt
script_numbered config questions (lines.Fetch fetch) (answers.Hit reply) script is = fate_same (length questions) script _ is tt
script_numbered config questions (lines.Fetch fetch) (answers.Held moment) script is = fate_same (length questions) script _ is tt
script_numbered config questions (lines.Fetch fetch) answers.Joined script is =
    fate_same (length questions) script _ is.is (number_below questions (question_of fetch) is.question is.numbered)
script_numbered config questions (lines.Fetch fetch) (answers.Fetched told reply) script is =
    fate_same (length questions) script _ is.is (number_below questions (question_of fetch) is.question is.numbered)
script_numbered config questions (lines.Sweep moment) (answers.Swept counts) script is = fate_same (length questions) script _ is tt
script_numbered config questions lines.Checkpoint answers.Closed script is = fate_same (length questions) script _ is tt
script_numbered config questions line answer script is = absurd is

-- the question of each task is one of those that are numbered
pub are_numbered : (config : Config) (lines : List Line) (questions : List KeyOf) (given : List Given) (tasks : List Task)
    → AreTasks config lines questions given tasks → All (λ task. IsNumbered (length questions) task.fate) tasks
are_numbered config lines questions given tasks are =
    each_of (IsTaskOfLine config lines questions) Anything (λ task. IsNumbered (length questions) task.fate) given tasks
    (λ given task is any. script_numbered config questions is.line given.answer (record { operations = task.operations; fate = task.fate }) is.script)
    are (λ k d within. tt)

-- ---- lines

share_taken : (worker : ℕ) (answers : List Answered)
    → map as_taken (map (given_by worker) answers) ≡ map (λ line. record { class = worker; value = line }) (map (λ answered. answered.line) answers)
share_taken worker [] = refl
share_taken worker (one ∷ answers) = λ i. record { class = worker; value = one.line } ∷ share_taken worker answers i

-- what workers took, as they say it, is what their lines say
pub given_taken : (worker : ℕ) (done : List Done) → map as_taken (given_from worker done) ≡ taken_from worker (map lines_done done)
given_taken worker [] = refl
given_taken worker (one ∷ done) =
    map-append as_taken (map (given_by worker) one.answers) (given_from (worker + 1) done)
    ∙ (ap (λ own. own ++ map as_taken (given_from (worker + 1) done)) (share_taken worker one.answers)
    ∙ ap (λ behind. map (λ line. record { class = worker; value = line }) (map (λ answered. answered.line) one.answers) ++ behind)
    (given_taken (worker + 1) done))

-- the tasks took the lines of what was given
pub tasks_taken : (config : Config) (lines : List Line) (questions : List KeyOf) (given : List Given) (tasks : List Task)
    → AreTasks config lines questions given tasks → taken_by tasks ≡ map as_taken given
tasks_taken config lines questions [] [] are = refl
tasks_taken config lines questions [] (task ∷ tasks) are = absurd are
tasks_taken config lines questions (one ∷ given) [] are = absurd are
tasks_taken config lines questions (one ∷ given) (task ∷ tasks) are =
    let is : IsTaskOfLine config lines questions one task = are.0 in
    let rest : taken_by tasks ≡ map as_taken given = tasks_taken config lines questions given tasks are.1 in
    λ i. record { class = is.worker_is i; value = is.number_is i } ∷ rest i

-- the tasks took the lines of the workers' shares
pub shares_taken : (config : Config) (lines : List Line) (questions : List KeyOf) (done : List Done) (tasks : List Task)
    → AreTasks config lines questions (given_from 0 done) tasks → taken_by tasks ≡ taken_from 0 (map lines_done done)
shares_taken config lines questions done tasks are = tasks_taken config lines questions (given_from 0 done) tasks are ∙ given_taken 0 done
