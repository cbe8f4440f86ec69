-- SPDX-License-Identifier: MIT
-- the fetches and the joins of tasks, as values of classes
use Rattle.std.proofs.Common.{◌≡◌, ℕ, ◌<◌, Bool, false, List, [], ◌∷◌, ◌++◌, Option, Some, None, Result, Ok, Err, refl, sym, ◌∙◌, ap, subst, arith, ⊎_elim, IsTrue, ◌↔◌}
use Rattle.std.specs.Prelude.{IfOk, IfSome}
use Rattle.std.specs.List.{All, Contains}
use Rattle.std.proofs.lemmas.List.{append-nil, append_assoc}
use Rattle.std.proofs.lemmas.List.Elements.{All-nil, All-cons, All-head, All-tail, All-weaker, Contains-append_left, Contains-append_right, Contains-append_cases, Contains-push, Contains-push_cases}
use Rattle.rrc_collate.specs.declared.valued.Valued.{Valued}
use Rattle.rrc_collate.specs.declared.task.Task.{Task}
use Rattle.rrc_collate.specs.declared.task.Fate.{Fate}
use Rattle.rrc_collate.specs.declared.task.Fate.TheVariants.{Plain, Joined, Fetched}
use Rattle.rrc_collate.specs.OtherValues.{HasOther}
use Rattle.rrc_collate.specs.Fetches.{fetch_by, join_by, listed, picked, IsNumbered}
use Rattle.rrc_collate.specs.Turns.{is_fetched}
use Rattle.rrc_collate.specs.Collated.{IsFetchOf, HasFetcher, IsJoinedTo}

pub picked_more : (pick : ℕ → Fate → Option Valued) (tasks : List Task) (next : Task) → picked pick (tasks ++ next ∷ []) ≡ picked pick tasks ++ listed (pick next.worker next.fate)
picked_more pick [] next = append-nil (listed (pick next.worker next.fate))
picked_more pick (task ∷ tasks) next =
    ap (λ l. listed (pick task.worker task.fate) ++ l) (picked_more pick tasks next)
    ∙ sym (append_assoc (listed (pick task.worker task.fate)) (picked pick tasks) (listed (pick next.worker next.fate)))

-- a predicate of what is picked, task by task
pub with_listed : (P : Valued → Type 0) (o : Option Valued) (values : List Valued) → IfSome o P → All P values → All P (listed o ++ values)
with_listed P None values holds all = all
with_listed P (Some valued) values holds all = All-cons P valued values holds all

of_listed : (P : Valued → Type 0) (o : Option Valued) (values : List Valued) → All P (listed o ++ values) → IfSome o P × All P values
of_listed P None values all = (tt, all)
of_listed P (Some valued) values all = (All-head P valued values all, All-tail P valued values all)

pub picked_all : (P : Valued → Type 0) (pick : ℕ → Fate → Option Valued) (tasks : List Task) → All (λ (task : Task). IfSome (pick task.worker task.fate) P) tasks → All P (picked pick tasks)
picked_all P pick [] all = All-nil P
picked_all P pick (task ∷ tasks) all =
    with_listed P (pick task.worker task.fate) (picked pick tasks) (All-head (λ (task : Task). IfSome (pick task.worker task.fate) P) task tasks all)
    (picked_all P pick tasks (All-tail (λ (task : Task). IfSome (pick task.worker task.fate) P) task tasks all))

pub all_picked : (P : Valued → Type 0) (pick : ℕ → Fate → Option Valued) (tasks : List Task) → All P (picked pick tasks) → All (λ (task : Task). IfSome (pick task.worker task.fate) P) tasks
all_picked P pick [] all = All-nil (λ (task : Task). IfSome (pick task.worker task.fate) P)
all_picked P pick (task ∷ tasks) all =
    let parts = of_listed P (pick task.worker task.fate) (picked pick tasks) all in
    All-cons (λ (task : Task). IfSome (pick task.worker task.fate) P) task tasks parts.0 (all_picked P pick tasks parts.1)

-- the task of which a value was picked
record PickedOf (pick : ℕ → Fate → Option Valued) (tasks : List Task) (valued : Valued) : Type 0 where
  pub task : Task
  pub is_task : Contains tasks task
  pub is : pick task.worker task.fate ≡ Some valued

nowhere : {X : Type 0} (x : X) → Contains [] x → ⊥
nowhere x here = let within = here.1 in omega (arith, within)

only_one : {X : Type 0} (x y : X) → Contains (x ∷ []) y → x ≡ y
only_one x y here = ⊎_elim (λ (none : Contains [] y). absurd (nowhere y none)) (λ (same : x ≡ y). same) (Contains-push_cases [] x y here)

of_one : (o : Option Valued) (valued : Valued) → Contains (listed o) valued → o ≡ Some valued
of_one None valued here = absurd (nowhere valued here)
of_one (Some one) valued here = ap Some (only_one one valued here)

picked_of : (pick : ℕ → Fate → Option Valued) (tasks : List Task) (valued : Valued) → Contains (picked pick tasks) valued → PickedOf pick tasks valued
picked_of pick [] valued here = absurd (nowhere valued here)
picked_of pick (task ∷ tasks) valued here =
    ⊎_elim
    (λ (first : Contains (listed (pick task.worker task.fate)) valued).
    record { task = task; is_task = Contains-append_left (task ∷ []) tasks task (Contains-push [] task); is = of_one (pick task.worker task.fate) valued first })
    (λ (behind : Contains (picked pick tasks) valued).
    let rest = picked_of pick tasks valued behind in
    record { task = rest.task; is_task = Contains-append_right (task ∷ []) tasks rest.task rest.is_task; is = rest.is })
    (Contains-append_cases (listed (pick task.worker task.fate)) (picked pick tasks) valued here)

picked_in : (pick : ℕ → Fate → Option Valued) (tasks : List Task) (task : Task) (valued : Valued) → Contains tasks task → pick task.worker task.fate ≡ Some valued
    → Contains (picked pick tasks) valued
picked_in pick [] task valued here is = absurd (nowhere task here)
picked_in pick (first ∷ tasks) task valued here is =
    ⊎_elim
    (λ (own : Contains (first ∷ []) task).
    let same = only_one first task own in
    let one : listed (pick first.worker first.fate) ≡ valued ∷ [] = ap (λ (t : Task). listed (pick t.worker t.fate)) same ∙ ap listed is in
    Contains-append_left (listed (pick first.worker first.fate)) (picked pick tasks) valued (subst (λ l. Contains l valued) (sym one) (Contains-push [] valued)))
    (λ (behind : Contains tasks task). Contains-append_right (listed (pick first.worker first.fate)) (picked pick tasks) valued (picked_in pick tasks task valued behind is))
    (Contains-append_cases (first ∷ []) tasks task here)

-- a question fetched by a worker
abbrev asked : ℕ → ℕ → Valued
asked question worker = record { class = question; value = worker }

fetch_is : (worker : ℕ) (fate : Fate) (valued : Valued) → fetch_by worker fate ≡ Some valued → IsFetchOf valued.class fate × (worker ≡ valued.value)
fetch_is worker Plain valued is = absurd cc
fetch_is worker (Joined question) valued is = absurd cc
fetch_is worker (Fetched question home) valued is =
    let same : asked question worker ≡ valued = cc in
    (ap (λ (v : Valued). v.class) same, ap (λ (v : Valued). v.value) same)

is_fetch : (worker : ℕ) (fate : Fate) (question : ℕ) → IsFetchOf question fate → fetch_by worker fate ≡ Some (asked question worker)
is_fetch worker Plain question fetched = absurd fetched
is_fetch worker (Joined other) question fetched = absurd fetched
is_fetch worker (Fetched other home) question fetched = ap (λ n. Some (asked n worker)) fetched

fetcher_of : (tasks : List Task) (worker question : ℕ) → HasOther (picked fetch_by tasks) (asked question worker) → HasFetcher tasks worker question
fetcher_of tasks worker question other =
    let found = picked_of fetch_by tasks other.other other.stands in
    let is = fetch_is found.task.worker found.task.fate other.other found.is in
    record {
      fetcher = found.task;
      is_task = found.is_task;
      fetched = subst (λ n. IsFetchOf n found.task.fate) other.same_class is.0;
      other = λ same. other.other_value (sym is.1 ∙ same);
    }

other_of : (tasks : List Task) (worker question : ℕ) → HasFetcher tasks worker question → HasOther (picked fetch_by tasks) (asked question worker)
other_of tasks worker question has =
    let fetcher = has.fetcher in
    record {
      other = asked question fetcher.worker;
      stands = picked_in fetch_by tasks fetcher (asked question fetcher.worker) has.is_task (is_fetch fetcher.worker fetcher.fate question has.fetched);
      same_class = refl;
      other_value = has.other;
    }

joined_to : (tasks : List Task) (worker : ℕ) (fate : Fate) → IfSome (join_by worker fate) (HasOther (picked fetch_by tasks)) → IsJoinedTo tasks worker fate
joined_to tasks worker Plain other = tt
joined_to tasks worker (Joined question) other = fetcher_of tasks worker question other
joined_to tasks worker (Fetched question home) other = tt

to_joined : (tasks : List Task) (worker : ℕ) (fate : Fate) → IsJoinedTo tasks worker fate → IfSome (join_by worker fate) (HasOther (picked fetch_by tasks))
to_joined tasks worker Plain joined = tt
to_joined tasks worker (Joined question) joined = other_of tasks worker question joined
to_joined tasks worker (Fetched question home) joined = tt

-- what `are_joined` answers, from what `have_others` answered
pub joined_by : {E : Type 0} (result : Result Bool E) (tasks : List Task) (fetches joins : List Valued) → fetches ≡ picked fetch_by tasks → joins ≡ picked join_by tasks
    → IfOk result (λ all. IsTrue all ↔ All (λ valued. HasOther fetches valued) joins)
    → IfOk result (λ all. IsTrue all ↔ All (λ (task : Task). IsJoinedTo tasks task.worker task.fate) tasks)
joined_by (Err e) tasks fetches joins are_fetches are_joins told = tt
joined_by (Ok all) tasks fetches joins are_fetches are_joins told =
    let Other : Valued → Type 0 = λ valued. HasOther (picked fetch_by tasks) valued in
    let there : All (λ valued. HasOther fetches valued) joins → All Other (picked join_by tasks) =
    λ holds. subst (λ fs. All (λ valued. HasOther fs valued) (picked join_by tasks)) are_fetches (subst (λ js. All (λ valued. HasOther fetches valued) js) are_joins holds) in
    let back : All Other (picked join_by tasks) → All (λ valued. HasOther fetches valued) joins =
    λ holds. subst (λ js. All (λ valued. HasOther fetches valued) js) (sym are_joins) (subst (λ fs. All (λ valued. HasOther fs valued) (picked join_by tasks)) (sym are_fetches) holds) in (
      λ holds.
          All-weaker (λ (task : Task). IfSome (join_by task.worker task.fate) Other) (λ (task : Task). IsJoinedTo tasks task.worker task.fate)
          (λ task other. joined_to tasks task.worker task.fate other) tasks (all_picked Other join_by tasks (there (told.0 holds))),
      λ joined.
          told.1 (back (picked_all Other join_by tasks
          (All-weaker (λ (task : Task). IsJoinedTo tasks task.worker task.fate) (λ (task : Task). IfSome (join_by task.worker task.fate) Other)
          (λ task own. to_joined tasks task.worker task.fate own) tasks joined))),
    )

-- the questions are below their count
fetch_below : (questions worker : ℕ) (fate : Fate) → IsNumbered questions fate → IfSome (fetch_by worker fate) (λ valued. valued.class < questions)
fetch_below questions worker Plain numbered = tt
fetch_below questions worker (Joined question) numbered = tt
fetch_below questions worker (Fetched question home) numbered = numbered

join_below : (questions worker : ℕ) (fate : Fate) → IsNumbered questions fate → IfSome (join_by worker fate) (λ valued. valued.class < questions)
join_below questions worker Plain numbered = tt
join_below questions worker (Joined question) numbered = numbered
join_below questions worker (Fetched question home) numbered = tt

pub fetches_below : (questions : ℕ) (tasks : List Task) (fetches : List Valued) → fetches ≡ picked fetch_by tasks → All (λ (task : Task). IsNumbered questions task.fate) tasks
    → All (λ (valued : Valued). valued.class < questions) fetches
fetches_below questions tasks fetches are numbered =
    let Below : Valued → Type 0 = λ valued. valued.class < questions in
    subst (λ fs. All Below fs) (sym are)
    (picked_all Below fetch_by tasks
    (All-weaker (λ (task : Task). IsNumbered questions task.fate) (λ (task : Task). IfSome (fetch_by task.worker task.fate) Below)
    (λ task own. fetch_below questions task.worker task.fate own) tasks numbered))

pub joins_below : (questions : ℕ) (tasks : List Task) (joins : List Valued) → joins ≡ picked join_by tasks → All (λ (task : Task). IsNumbered questions task.fate) tasks
    → All (λ (valued : Valued). valued.class < questions) joins
joins_below questions tasks joins are numbered =
    let Below : Valued → Type 0 = λ valued. valued.class < questions in
    subst (λ js. All Below js) (sym are)
    (picked_all Below join_by tasks
    (All-weaker (λ (task : Task). IsNumbered questions task.fate) (λ (task : Task). IfSome (join_by task.worker task.fate) Below)
    (λ task own. join_below questions task.worker task.fate own) tasks numbered))

-- where there are no questions, no line fetched or joined one
plain_of : (questions : ℕ) (fate : Fate) → questions ≡ 0 → IsNumbered questions fate → fate ≡ Plain
plain_of questions Plain none is = refl
plain_of questions (Joined question) none is = absurd (omega (arith, none, is))
plain_of questions (Fetched question home) none is = absurd (omega (arith, none, is))

pub none_are_fetched : (questions : ℕ) (tasks : List Task) → questions ≡ 0 → All (λ (task : Task). IsNumbered questions task.fate) tasks
    → All (λ (task : Task). is_fetched task.fate ≡ false) tasks
none_are_fetched questions tasks none numbered =
    All-weaker (λ (task : Task). IsNumbered questions task.fate) (λ (task : Task). is_fetched task.fate ≡ false)
    (λ task is. ap is_fetched (plain_of questions task.fate none is)) tasks numbered
