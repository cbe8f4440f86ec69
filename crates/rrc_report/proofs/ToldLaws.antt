-- SPDX-License-Identifier: MIT
-- The answer that events complete is the one that they tell and that was given.
use Rattle.std.proofs.Common.{◌≡◌, ℕ, Bool, true, false, cond, List, [], ◌∷◌, length, map, Option, Some, None, refl, sym, ap, subst, ◌∙◌}
use Rattle.std.specs.Prelude.{◌&&◌, Result, Ok, Err, IfOk, IfSome, IfNone}
use Rattle.std.specs.Option.{option_map}
use Rattle.std.proofs.lemmas.Bool.{false≢true, cond-true, and_from, and_parts}
use Rattle.std.proofs.lemmas.Bool.Decides.{Decides-eqb}
use Rattle.rrc_name.specs.Key.{KeyOf}
use Rattle.rrc_history.specs.declared.event.Event.{Event}
use Rattle.rrc_history.specs.declared.event.Event.TheVariants.{Offered, Asked, Swept}
use Rattle.rrc_history.specs.declared.event.Reply.{Reply}
use Rattle.rrc_history.specs.declared.event.Reply.TheVariants.{Fresh, Stale, NoData, NxDomain, Miss}
use Rattle.rrc_history.specs.Auditing.{outcome_eq}
use Rattle.rrc_history.specs.lemmas.ReplyLaws.{outcome_eq-Decides, reply_eq-Decides}
use Rattle.rrc_trace.specs.declared.answer.Answer.{Answer}
use Rattle.rrc_trace.specs.declared.answer.Answer.TheVariants as answers
use Rattle.rrc_trace.specs.declared.answer.Told.{Told}
use Rattle.rrc_report.specs.Answers.{TellsOutcome, Replies, Counts, TellAll, TellFetched, CountAll, RepliesAlone, IsHit, IsTold, without_key, without_keys, Completes, OneCompletion}
use Rattle.rrc_report.specs.Completions.{is_nobody, told_by, replies, counts, is_hit, joined, all_told_by, all_count, is_empty, replies_alone, one_told_by, told_before, fetch_told_by, only_where, complete}

-- ---- answers of tests

-- what is there only where a test passes
where_passed : {X : Type 0} (b : Bool) (x y : X) → cond b (Some x) None ≡ Some y → (b ≡ true) × (x ≡ y)
where_passed true x y h = (refl, cc)
where_passed false x y h = absurd cc

-- what comes first and what comes behind it
pub joined_parts : {X : Type 0} (first : Option X) (rest : Option (List X)) (xs : List X) → joined first rest ≡ Some xs
    → (x : X) × (behind : List X) × (first ≡ Some x) × (rest ≡ Some behind) × (xs ≡ x ∷ behind)
joined_parts None rest xs h = absurd cc
joined_parts (Some first) None xs h = absurd cc
joined_parts (Some first) (Some rest) xs h = (first, rest, refl, refl, let same : first ∷ rest ≡ xs = cc in sym same)

-- ---- one event

nobody : (key : Option KeyOf) → is_nobody key ≡ true → key ≡ None
nobody None h = refl
nobody (Some key) h = absurd (false≢true h)

-- what is told by an event is told, and was given without its key
told_by-tells : (given : Told) (event : Event) (told : Told) → told_by given event ≡ Some told → TellsOutcome told event × (given ≡ without_key told)
told_by-tells given (Offered outcome tag offer evicted) told h =
    let parts = where_passed (outcome_eq given.outcome outcome && is_nobody given.evicted) (record { outcome = outcome; evicted = evicted }) told h in
    let both = and_parts (outcome_eq given.outcome outcome) (is_nobody given.evicted) parts.0 in
    let outcomes : given.outcome ≡ outcome = (outcome_eq-Decides given.outcome outcome).0 both.0 in
    let keys : given.evicted ≡ None = nobody given.evicted both.1 in
    let bare : given ≡ record { outcome = outcome; evicted = None } = λ i. record { outcome = outcomes i; evicted = keys i } in
    (sym parts.1, bare ∙ ap without_key parts.1)
told_by-tells given (Asked tag ask reply) told h = absurd cc
told_by-tells given (Swept tag moment gone) told h = absurd cc

told_by-found : (told : Told) (event : Event) → TellsOutcome told event → told_by (without_key told) event ≡ Some told
told_by-found told (Offered outcome tag offer evicted) tells =
    let outcomes : told.outcome ≡ outcome = ap (λ (t : Told). t.outcome) tells in
    let passes : (outcome_eq told.outcome outcome && true) ≡ true = and_from (outcome_eq told.outcome outcome) true ((outcome_eq-Decides told.outcome outcome).1 outcomes) refl in
    cond-true (outcome_eq told.outcome outcome && true) (Some (record { outcome = outcome; evicted = evicted })) None passes ∙ ap Some (sym tells)
told_by-found told (Asked tag ask reply) tells = absurd tells
told_by-found told (Swept tag moment gone) tells = absurd tells

replies-told : (reply : Reply) (event : Event) → replies reply event ≡ true → Replies reply event
replies-told reply (Offered outcome tag offer evicted) h = absurd (false≢true h)
replies-told reply (Asked tag ask other) h = (reply_eq-Decides reply other).0 h
replies-told reply (Swept tag moment gone) h = absurd (false≢true h)

replies-found : (reply : Reply) (event : Event) → Replies reply event → replies reply event ≡ true
replies-found reply (Offered outcome tag offer evicted) told = absurd told
replies-found reply (Asked tag ask other) told = (reply_eq-Decides reply other).1 told
replies-found reply (Swept tag moment gone) told = absurd told

counts-told : (count : ℕ) (event : Event) → counts count event ≡ true → Counts count event
counts-told count (Offered outcome tag offer evicted) h = absurd (false≢true h)
counts-told count (Asked tag ask reply) h = absurd (false≢true h)
counts-told count (Swept tag moment gone) h = (Decides-eqb count (length gone)).0 h

counts-found : (count : ℕ) (event : Event) → Counts count event → counts count event ≡ true
counts-found count (Offered outcome tag offer evicted) told = absurd told
counts-found count (Asked tag ask reply) told = absurd told
counts-found count (Swept tag moment gone) told = (Decides-eqb count (length gone)).1 told

hit-told : (reply : Reply) → is_hit reply ≡ true → IsHit reply
hit-told (Fresh set left) h = tt
hit-told (Stale set left) h = tt
hit-told (NoData soa left) h = tt
hit-told (NxDomain soa left) h = tt
hit-told (Miss retry_from) h = absurd (false≢true h)

hit-found : (reply : Reply) → IsHit reply → is_hit reply ≡ true
hit-found (Fresh set left) hit = refl
hit-found (Stale set left) hit = refl
hit-found (NoData soa left) hit = refl
hit-found (NxDomain soa left) hit = refl
hit-found (Miss retry_from) hit = absurd hit

-- ---- all events of a line

alone-told : (reply : Reply) (events : List Event) → replies_alone reply events ≡ true → RepliesAlone reply events
alone-told reply [] h = absurd (false≢true h)
alone-told reply (event ∷ []) h = replies-told reply event h
alone-told reply (event ∷ (next ∷ events)) h = absurd (false≢true h)

alone-found : (reply : Reply) (events : List Event) → RepliesAlone reply events → replies_alone reply events ≡ true
alone-found reply [] told = absurd told
alone-found reply (event ∷ []) told = replies-found reply event told
alone-found reply (event ∷ (next ∷ events)) told = absurd told

one-tells : (given : Told) (events : List Event) (told : Told) → one_told_by given events ≡ Some told → TellAll (told ∷ []) events × (given ≡ without_key told)
one-tells given [] told h = absurd cc
one-tells given (event ∷ []) told h = let parts = told_by-tells given event told h in ((parts.0, tt), parts.1)
one-tells given (event ∷ (next ∷ events)) told h = absurd cc

one-found : (told : Told) (events : List Event) → TellAll (told ∷ []) events → one_told_by (without_key told) events ≡ Some told
one-found told [] tells = absurd tells
one-found told (event ∷ []) tells = told_by-found told event tells.0
one-found told (event ∷ (next ∷ events)) tells = absurd tells.1

all-tells : (given : List Told) (events : List Event) (told : List Told) → all_told_by given events ≡ Some told → TellAll told events × (given ≡ map without_key told)
all-tells [] [] told h =
    let none : told ≡ [] = cc in
    (subst (λ (t : List Told). TellAll t []) (sym none) tt, ap (map without_key) (sym none))
all-tells [] (event ∷ events) told h = absurd cc
all-tells (one ∷ given) [] told h = absurd cc
all-tells (one ∷ given) (event ∷ events) told h =
    let parts = joined_parts (told_by one event) (all_told_by given events) told h in
    let first = told_by-tells one event parts.0 parts.2 in
    let rest = all-tells given events parts.1 parts.3 in (
      subst (λ (t : List Told). TellAll t (event ∷ events)) (sym parts.4) (first.0, rest.0),
      (λ i. first.1 i ∷ rest.1 i) ∙ ap (map without_key) (sym parts.4),
    )

all-found : (told : List Told) (events : List Event) → TellAll told events → all_told_by (map without_key told) events ≡ Some told
all-found [] [] tells = refl
all-found [] (event ∷ events) tells = absurd tells
all-found (one ∷ told) [] tells = absurd tells
all-found (one ∷ told) (event ∷ events) tells = λ i. joined (told_by-found one event tells.0 i) (all-found told events tells.1 i)

fetched-tells : (given : List Told) (reply : Reply) (events : List Event) (told : List Told) → told_before given reply events ≡ Some told
    → TellFetched told reply events × (given ≡ map without_key told)
fetched-tells [] reply [] told h = absurd cc
fetched-tells [] reply (event ∷ []) told h =
    let parts = where_passed (replies reply event) [] told h in
    (subst (λ (t : List Told). TellFetched t reply (event ∷ [])) parts.1 (replies-told reply event parts.0), ap (map without_key) parts.1)
fetched-tells [] reply (event ∷ (next ∷ events)) told h = absurd cc
fetched-tells (one ∷ given) reply [] told h = absurd cc
fetched-tells (one ∷ given) reply (event ∷ events) told h =
    let parts = joined_parts (told_by one event) (told_before given reply events) told h in
    let first = told_by-tells one event parts.0 parts.2 in
    let rest = fetched-tells given reply events parts.1 parts.3 in (
      subst (λ (t : List Told). TellFetched t reply (event ∷ events)) (sym parts.4) (first.0, rest.0),
      (λ i. first.1 i ∷ rest.1 i) ∙ ap (map without_key) (sym parts.4),
    )

fetched-found : (told : List Told) (reply : Reply) (events : List Event) → TellFetched told reply events → told_before (map without_key told) reply events ≡ Some told
fetched-found [] reply [] tells = absurd tells
fetched-found [] reply (event ∷ []) tells = cond-true (replies reply event) (Some []) None (replies-found reply event tells)
fetched-found [] reply (event ∷ (next ∷ events)) tells = absurd tells
fetched-found (one ∷ told) reply [] tells = absurd tells
fetched-found (one ∷ told) reply (event ∷ events) tells = λ i. joined (told_by-found one event tells.0 i) (fetched-found told reply events tells.1 i)

count-told : (removed : List ℕ) (events : List Event) → all_count removed events ≡ true → CountAll removed events
count-told [] [] h = tt
count-told [] (event ∷ events) h = absurd (false≢true h)
count-told (count ∷ removed) [] h = absurd (false≢true h)
count-told (count ∷ removed) (event ∷ events) h =
    let parts = and_parts (counts count event) (all_count removed events) h in
    (counts-told count event parts.0, count-told removed events parts.1)

count-found : (removed : List ℕ) (events : List Event) → CountAll removed events → all_count removed events ≡ true
count-found [] [] told = refl
count-found [] (event ∷ events) told = absurd told
count-found (count ∷ removed) [] told = absurd told
count-found (count ∷ removed) (event ∷ events) told =
    and_from (counts count event) (all_count removed events) (counts-found count event told.0) (count-found removed events told.1)

nothing-told : (events : List Event) → is_empty events ≡ true → events ≡ []
nothing-told [] h = refl
nothing-told (event ∷ events) h = absurd (false≢true h)

nothing-found : (events : List Event) → events ≡ [] → is_empty events ≡ true
nothing-found events none = ap is_empty none

-- ---- the answer

-- an answer that holds no key, where the events tell it
plain-complete : (given answer : Answer) (events : List Event) (told : Bool) → given ≡ without_keys given → (told ≡ true → IsTold given events) → only_where told given ≡ Some answer
    → Completes given answer events
plain-complete given answer events told bare tells h =
    let parts = where_passed told given answer h in
    record { told = subst (λ a. IsTold a events) parts.1 (tells parts.0); same = bare ∙ ap without_keys parts.1 }

-- what became of an offer or of many, in an answer
option_parts : {X Y : Type 0} (f : X → Y) (found : Option X) (y : Y) → option_map f found ≡ Some y → (x : X) × (found ≡ Some x) × (f x ≡ y)
option_parts f None y h = absurd cc
option_parts f (Some x) y h = (x, refl, cc)

keyed-complete : {X : Type 0} (f : X → Answer) (bare : X → X) (given : X) (found : Option X) (answer : Answer) (events : List Event)
    → ((x : X) → without_keys (f x) ≡ f (bare x)) → ((x : X) → found ≡ Some x → IsTold (f x) events × (given ≡ bare x)) → option_map f found ≡ Some answer
    → Completes (f given) answer events
keyed-complete f bare given found answer events is tells h =
    let parts = option_parts f found answer h in
    let own = tells parts.0 parts.1 in
    record {
      told = subst (λ a. IsTold a events) parts.2 own.0;
      same = ap f own.1 ∙ (sym (is parts.0) ∙ ap without_keys parts.2);
    }

-- a fetch tells first that it missed
fetch_told_by-tells : (given : List Told) (reply : Reply) (events : List Event) (told : List Told) → fetch_told_by given reply events ≡ Some told
    → IsTold (answers.Fetched told reply) events × (given ≡ map without_key told)
fetch_told_by-tells given reply [] told h = absurd cc
fetch_told_by-tells given reply (event ∷ events) told h = by (replies (Miss None) event) refl
  where
    by : (missed : Bool) → replies (Miss None) event ≡ missed → IsTold (answers.Fetched told reply) (event ∷ events) × (given ≡ map without_key told)
    by true is =
        let rest : told_before given reply events ≡ Some told = rw is at h in
        let own = fetched-tells given reply events told rest in
        ((replies-told (Miss None) event is, own.0), own.1)
    by false is = let bad : None ≡ Some told = rw is at h in absurd cc

fetch_told_by-found : (told : List Told) (reply : Reply) (events : List Event) → IsTold (answers.Fetched told reply) events → fetch_told_by (map without_key told) reply events ≡ Some told
fetch_told_by-found told reply [] tells = absurd tells
fetch_told_by-found told reply (event ∷ events) tells =
    cond-true (replies (Miss None) event) (told_before (map without_key told) reply events) None (replies-found (Miss None) event tells.0) ∙ fetched-found told reply events tells.1

-- the answer that events complete is told by them, and without its keys the given one
pub complete-told : (given answer : Answer) (events : List Event) → complete given events ≡ Some answer → Completes given answer events
complete-told (answers.Put told) answer events h =
    keyed-complete answers.Put without_key told (one_told_by told events) answer events (λ x. refl) (λ x is. one-tells told events x is) h
complete-told (answers.Fail told) answer events h =
    keyed-complete answers.Fail without_key told (one_told_by told events) answer events (λ x. refl) (λ x is. one-tells told events x is) h
complete-told (answers.Response told) answer events h =
    keyed-complete answers.Response (map without_key) told (all_told_by told events) answer events (λ x. refl) (λ x is. all-tells told events x is) h
complete-told (answers.Fetched told reply) answer events h =
    keyed-complete (λ told. answers.Fetched told reply) (map without_key) told (fetch_told_by told reply events) answer events (λ x. refl)
    (λ x is. fetch_told_by-tells told reply events x is) h
complete-told (answers.Ask reply) answer events h =
    plain-complete (answers.Ask reply) answer events (replies_alone reply events) refl (alone-told reply events) h
complete-told (answers.Hit reply) answer events h =
    plain-complete (answers.Hit reply) answer events (is_hit reply && replies_alone reply events) refl
    (λ both. let parts = and_parts (is_hit reply) (replies_alone reply events) both in (hit-told reply parts.0, alone-told reply events parts.1)) h
complete-told (answers.Held moment) answer events h =
    plain-complete (answers.Held moment) answer events (replies_alone (Miss (Some moment)) events) refl (alone-told (Miss (Some moment)) events) h
complete-told answers.Joined answer events h =
    plain-complete answers.Joined answer events (replies_alone (Miss None) events) refl (alone-told (Miss None) events) h
complete-told (answers.Swept removed) answer events h =
    plain-complete (answers.Swept removed) answer events (all_count removed events) refl (count-told removed events) h
complete-told (answers.Refused number) answer events h = plain-complete (answers.Refused number) answer events (is_empty events) refl (nothing-told events) h
complete-told answers.Closed answer events h = plain-complete answers.Closed answer events (is_empty events) refl (nothing-told events) h

-- an answer that events tell is the one that they complete
found : (answer : Answer) (events : List Event) → IsTold answer events → complete (without_keys answer) events ≡ Some answer
found (answers.Put told) events tells = ap (option_map answers.Put) (one-found told events tells)
found (answers.Fail told) events tells = ap (option_map answers.Fail) (one-found told events tells)
found (answers.Response told) events tells = ap (option_map answers.Response) (all-found told events tells)
found (answers.Fetched told reply) events tells = ap (option_map (λ told. answers.Fetched told reply)) (fetch_told_by-found told reply events tells)
found (answers.Ask reply) events tells = ap (λ told. only_where told (answers.Ask reply)) (alone-found reply events tells)
found (answers.Hit reply) events tells =
    ap (λ told. only_where told (answers.Hit reply)) (and_from (is_hit reply) (replies_alone reply events) (hit-found reply tells.0) (alone-found reply events tells.1))
found (answers.Held moment) events tells = ap (λ told. only_where told (answers.Held moment)) (alone-found (Miss (Some moment)) events tells)
found answers.Joined events tells = ap (λ told. only_where told answers.Joined) (alone-found (Miss None) events tells)
found (answers.Swept removed) events tells = ap (λ told. only_where told (answers.Swept removed)) (count-found removed events tells)
found (answers.Refused number) events tells = ap (λ told. only_where told (answers.Refused number)) (nothing-found events tells)
found answers.Closed events tells = ap (λ told. only_where told answers.Closed) (nothing-found events tells)

pub complete-found : (given answer : Answer) (events : List Event) → Completes given answer events → complete given events ≡ Some answer
complete-found given answer events completes = ap (λ g. complete g events) completes.same ∙ found answer events completes.told

pub complete-one : OneCompletion
complete-one given answer other events completes also =
    let one = complete-found given answer events completes in
    let two = complete-found given other events also in
    let same : Some answer ≡ Some other = sym one ∙ two in
    cc

-- ---- what `completed` answers

pub completed_some : {E : Type 0} (given : Answer) (events : List Event) (result : Result (Option Answer) E) → IfOk result (λ found. found ≡ complete given events)
    → IfOk result (λ found. IfSome found (λ answer. Completes given answer events))
completed_some given events (Err e) is = tt
completed_some given events (Ok None) is = tt
completed_some given events (Ok (Some answer)) is = complete-told given answer events (sym is)

pub completed_none : {E : Type 0} (given : Answer) (events : List Event) (result : Result (Option Answer) E) → IfOk result (λ found. found ≡ complete given events)
    → IfOk result (λ found. IfNone found ((answer : Answer) → Completes given answer events → ⊥))
completed_none given events (Err e) is = tt
completed_none given events (Ok (Some answer)) is = tt
completed_none given events (Ok None) is = λ answer completes. let one = complete-found given answer events completes in let bad : None ≡ Some answer = is ∙ one in absurd cc
