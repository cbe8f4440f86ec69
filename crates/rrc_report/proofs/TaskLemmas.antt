-- SPDX-License-Identifier: MIT
-- The tasks of lines, one after another, and of workers.
use Rattle.std.proofs.Common.{◌≡◌, ◌<◌, ℕ, suc, ◌+◌, List, [], ◌∷◌, ◌++◌, length, map, take, drop, get_or, sym, ap, subst, ◌∙◌, arith}
use Rattle.std.specs.List.{AllZip}
use Rattle.std.proofs.lemmas.List.{append_assoc, append-nil, map-append, take_more, drop_more, take-append-drop, length-take-le}
use Rattle.rrc_name.specs.Key.{KeyOf}
use Rattle.rrc_trace.specs.declared.line.Line.{Line}
use Rattle.rrc_collate.specs.declared.task.Task.{Task}
use Rattle.rrc_script.specs.declared.config.Config.{Config}
use Rattle.rrc_report.specs.declared.done.Answered.{Answered}
use Rattle.rrc_report.specs.declared.done.Done.{Done}
use Rattle.rrc_report.specs.Steps.{Given, given_by, given_from, IsTaskOfLine, AreTasks}

-- ---- relations between lists

zip_join : {A B : Type 0} (R : A → B → Type 0) (xs later : List A) (ys others : List B) → AllZip R xs ys → AllZip R later others → AllZip R (xs ++ later) (ys ++ others)
zip_join R [] later [] others are also = also
zip_join R [] later (y ∷ ys) others are also = absurd are
zip_join R (x ∷ xs) later [] others are also = absurd are
zip_join R (x ∷ xs) later (y ∷ ys) others are also = (are.0, zip_join R xs later ys others are.1 also)

-- some elements of a list that is related to one have others
zip_front : {A B : Type 0} (R : A → B → Type 0) (own behind : List A) (ys : List B) → AllZip R (own ++ behind) ys → (others : List B) × AllZip R own others
zip_front R [] behind ys are = ([], tt)
zip_front R (x ∷ own) behind [] are = absurd are
zip_front R (x ∷ own) behind (y ∷ ys) are = let rest = zip_front R own behind ys are.1 in (y ∷ rest.0, (are.0, rest.1))

zip_within : {A B : Type 0} (R : A → B → Type 0) (front own behind : List A) (ys : List B) → AllZip R (front ++ (own ++ behind)) ys
    → (others : List B) × AllZip R own others
zip_within R [] own behind ys are = zip_front R own behind ys are
zip_within R (x ∷ front) own behind [] are = absurd are
zip_within R (x ∷ front) own behind (y ∷ ys) are = zip_within R front own behind ys are.1

-- ---- the tasks of one worker

-- a list, cut behind an element
cut_at : {X : Type 0} (xs : List X) (i : ℕ) (x : X) → i < length xs → x ≡ get_or xs i x → xs ≡ take i xs ++ x ∷ drop (i + 1) xs
cut_at xs i x within is =
    let rest : drop i xs ≡ x ∷ drop (i + 1) xs = drop_more xs i x within ∙ ap (λ y. y ∷ drop (i + 1) xs) (sym is) in
    sym (take-append-drop i xs) ∙ ap (λ behind. take i xs ++ behind) rest

-- one more line of a worker has its task
pub tasks_more : (config : Config) (lines : List Line) (questions : List KeyOf) (worker i : ℕ) (answers : List Answered) (answered : Answered) (tasks : List Task) (task : Task)
    → i < length answers → answered ≡ get_or answers i answered → AreTasks config lines questions (map (given_by worker) (take i answers)) tasks
    → IsTaskOfLine config lines questions (given_by worker answered) task
    → AreTasks config lines questions (map (given_by worker) (take (i + 1) answers)) (tasks ++ task ∷ [])
tasks_more config lines questions worker i answers answered tasks task within is are more =
    let given = map (given_by worker) (take i answers) in
    let taken : take (i + 1) answers ≡ take i answers ++ answered ∷ [] =
    take_more answers i answered within ∙ ap (λ one. take i answers ++ one ∷ []) (sym is) in
    let longer : map (given_by worker) (take (i + 1) answers) ≡ given ++ given_by worker answered ∷ [] =
    ap (map (given_by worker)) taken ∙ map-append (given_by worker) (take i answers) (answered ∷ []) in
    subst (λ (all : List Given). AreTasks config lines questions all (tasks ++ task ∷ [])) (sym longer)
    (zip_join (IsTaskOfLine config lines questions) given (given_by worker answered ∷ []) tasks (task ∷ []) are (more, tt))

-- where one line of a worker has no task, its lines have no tasks
pub no_tasks : (config : Config) (lines : List Line) (questions : List KeyOf) (worker i : ℕ) (answers : List Answered) (answered : Answered) (tasks : List Task)
    → i < length answers → answered ≡ get_or answers i answered → ((task : Task) → IsTaskOfLine config lines questions (given_by worker answered) task → ⊥)
    → AreTasks config lines questions (map (given_by worker) answers) tasks → ⊥
no_tasks config lines questions worker i answers answered tasks within is none are =
    let front = map (given_by worker) (take i answers) in
    let behind = map (given_by worker) (drop (i + 1) answers) in
    let cut : map (given_by worker) answers ≡ front ++ (given_by worker answered ∷ [] ++ behind) =
    ap (map (given_by worker)) (cut_at answers i answered within is) ∙ map-append (given_by worker) (take i answers) (answered ∷ drop (i + 1) answers) in
    let own =
    zip_within (IsTaskOfLine config lines questions) front (given_by worker answered ∷ []) behind tasks
    (subst (λ (all : List Given). AreTasks config lines questions all tasks) cut are) in
    none_alone own.0 own.1
  where
    none_alone : (own : List Task) → AllZip (IsTaskOfLine config lines questions) (given_by worker answered ∷ []) own → ⊥
    none_alone [] one = absurd one
    none_alone (task ∷ own) one = none task one.0

-- ---- the tasks of all workers

-- what workers did, cut at one of them
given_cut : (first : ℕ) (front behind : List Done) (one : Done)
    → given_from first (front ++ one ∷ behind) ≡ given_from first front ++ (map (given_by (first + length front)) one.answers ++ given_from (first + length front + 1) behind)
given_cut first [] behind one =
    let same : first ≡ first + 0 = omega arith in
    ap (λ worker. map (given_by worker) one.answers ++ given_from (worker + 1) behind) same
given_cut first (done ∷ front) behind one =
    let rest = given_cut (first + 1) front behind one in
    let same : first + 1 + length front ≡ first + suc (length front) = omega arith in
    ap (λ later. map (given_by first) done.answers ++ later) rest
    ∙ (sym
    (append_assoc (map (given_by first) done.answers) (given_from (first + 1) front)
    (map (given_by (first + 1 + length front)) one.answers ++ given_from (first + 1 + length front + 1) behind))
    ∙ ap
    (λ worker. (map (given_by first) done.answers ++ given_from (first + 1) front) ++ (map (given_by worker) one.answers ++ given_from (worker + 1) behind))
    same)

-- what the workers did, cut at one of them
given_at : (i : ℕ) (done : List Done) (one : Done) → i < length done → one ≡ get_or done i one
    → given_from 0 done ≡ given_from 0 (take i done) ++ (map (given_by i) one.answers ++ given_from (i + 1) (drop (i + 1) done))
given_at i done one within is =
    let size : length (take i done) ≡ i = length-take-le i done (omega (arith, within)) in
    let count : 0 + length (take i done) ≡ i = omega (arith, size) in
    ap (given_from 0) (cut_at done i one within is)
    ∙ (given_cut 0 (take i done) (drop (i + 1) done) one
    ∙ ap (λ worker. given_from 0 (take i done) ++ (map (given_by worker) one.answers ++ given_from (worker + 1) (drop (i + 1) done))) count)

-- one more worker has its tasks
pub tasks_of_more : (config : Config) (lines : List Line) (questions : List KeyOf) (i : ℕ) (done : List Done) (one : Done) (tasks own : List Task)
    → i < length done → one ≡ get_or done i one → AreTasks config lines questions (given_from 0 (take i done)) tasks
    → AreTasks config lines questions (map (given_by i) one.answers) own → AreTasks config lines questions (given_from 0 (take (i + 1) done)) (tasks ++ own)
tasks_of_more config lines questions i done one tasks own within is are more =
    let size : length (take i done) ≡ i = length-take-le i done (omega (arith, within)) in
    let count : 0 + length (take i done) ≡ i = omega (arith, size) in
    let given = given_from 0 (take i done) in
    let taken : take (i + 1) done ≡ take i done ++ one ∷ [] = take_more done i one within ∙ ap (λ last. take i done ++ last ∷ []) (sym is) in
    let longer : given_from 0 (take (i + 1) done) ≡ given ++ map (given_by i) one.answers =
    ap (given_from 0) taken
    ∙ (given_cut 0 (take i done) [] one
    ∙ (ap (λ later. given ++ later) (append-nil (map (given_by (0 + length (take i done))) one.answers))
    ∙ ap (λ worker. given ++ map (given_by worker) one.answers) count)) in
    subst (λ (all : List Given). AreTasks config lines questions all (tasks ++ own)) (sym longer)
    (zip_join (IsTaskOfLine config lines questions) given (map (given_by i) one.answers) tasks own are more)

-- where one worker has no tasks, the workers have none
pub no_tasks_of : (config : Config) (lines : List Line) (questions : List KeyOf) (i : ℕ) (done : List Done) (one : Done) (tasks : List Task)
    → i < length done → one ≡ get_or done i one → ((own : List Task) → AreTasks config lines questions (map (given_by i) one.answers) own → ⊥)
    → AreTasks config lines questions (given_from 0 done) tasks → ⊥
no_tasks_of config lines questions i done one tasks within is none are =
    let own =
    zip_within (IsTaskOfLine config lines questions) (given_from 0 (take i done)) (map (given_by i) one.answers) (given_from (i + 1) (drop (i + 1) done)) tasks
    (subst (λ (all : List Given). AreTasks config lines questions all tasks) (given_at i done one within is) are) in
    none own.0 own.1
