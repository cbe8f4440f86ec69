-- SPDX-License-Identifier: MIT
-- One event more of those that tell what became of offers, or how many keys sweeps removed.
use Rattle.std.proofs.Common.{◌≡◌, ℕ, zero, suc, ◌<◌, Bool, true, false, cond, List, [], ◌∷◌, ◌++◌, length, get_or, map, Option, Some, None, take, refl, sym, ap, ◌∙◌, ◌+◌, arith}
use Rattle.std.specs.Prelude.{◌&&◌}
use Rattle.std.proofs.lemmas.Bool.{false≢true, and_from, and_parts}
use Rattle.std.proofs.lemmas.List.{get_or-map, length-map, map-append, take_more}
use Rattle.rrc_history.specs.declared.event.Event.{Event}
use Rattle.rrc_history.specs.declared.event.Reply.{Reply}
use Rattle.rrc_trace.specs.declared.answer.Told.{Told}
use Rattle.rrc_report.specs.Completions.{told_by, replies, counts, joined, all_told_by, all_count, told_before}
use Rattle.rrc_report.proofs.ToldLaws.{joined_parts}

joined_none : {X : Type 0} (first : Option X) → joined first None ≡ None
joined_none None = refl
joined_none (Some first) = refl

-- ---- offers

pub told_unlike : (given : List Told) (events : List Event) → (length given ≡ length events → ⊥) → all_told_by given events ≡ None
told_unlike [] [] other = absurd (other refl)
told_unlike [] (event ∷ events) other = refl
told_unlike (one ∷ given) [] other = refl
told_unlike (one ∷ given) (event ∷ events) other =
    ap (joined (told_by one event)) (told_unlike given events (λ same. other (ap suc same))) ∙ joined_none (told_by one event)

pub told_more : (given : List Told) (events : List Event) (told : List Told) (one : Told) (event : Event) (next : Told) → all_told_by given events ≡ Some told
    → told_by one event ≡ Some next → all_told_by (given ++ one ∷ []) (events ++ event ∷ []) ≡ Some (told ++ next ∷ [])
told_more [] [] told one event next so_far last =
    let none : [] ≡ told = cc in
    ap (λ found. joined found (Some [])) last ∙ ap (λ t. Some (t ++ next ∷ [])) none
told_more [] (first ∷ events) told one event next so_far last = absurd cc
told_more (before ∷ given) [] told one event next so_far last = absurd cc
told_more (before ∷ given) (first ∷ events) told one event next so_far last =
    let parts = joined_parts (told_by before first) (all_told_by given events) told so_far in
    (λ i. joined (parts.2 i) (told_more given events parts.1 one event next parts.3 last i)) ∙ ap (λ t. Some (t ++ next ∷ [])) (sym parts.4)

pub told_missed : (given : List Told) (events : List Event) (i : ℕ) (one : Told) (event : Event) → i < length given → i < length events
    → told_by (get_or given i one) (get_or events i event) ≡ None → all_told_by given events ≡ None
told_missed [] events i one event within also none = absurd (omega (arith, within))
told_missed (first ∷ given) [] i one event within also none = refl
told_missed (first ∷ given) (next ∷ events) zero one event within also none = ap (λ found. joined found (all_told_by given events)) none
told_missed (first ∷ given) (next ∷ events) (suc i) one event within also none =
    ap (joined (told_by first next)) (told_missed given events i one event (omega (arith, within)) (omega (arith, also)) none) ∙ joined_none (told_by first next)

-- ---- sweeps

and_false : (b : Bool) → (b && false) ≡ false
and_false true = refl
and_false false = refl

pub count_unlike : (removed : List ℕ) (events : List Event) → (length removed ≡ length events → ⊥) → all_count removed events ≡ false
count_unlike [] [] other = absurd (other refl)
count_unlike [] (event ∷ events) other = refl
count_unlike (count ∷ removed) [] other = refl
count_unlike (count ∷ removed) (event ∷ events) other =
    ap (λ rest. counts count event && rest) (count_unlike removed events (λ same. other (ap suc same))) ∙ and_false (counts count event)

pub count_more : (removed : List ℕ) (events : List Event) (count : ℕ) (event : Event) → all_count removed events ≡ true → counts count event ≡ true
    → all_count (removed ++ count ∷ []) (events ++ event ∷ []) ≡ true
count_more [] [] count event so_far last = and_from (counts count event) true last refl
count_more [] (first ∷ events) count event so_far last = absurd (false≢true so_far)
count_more (before ∷ removed) [] count event so_far last = absurd (false≢true so_far)
count_more (before ∷ removed) (first ∷ events) count event so_far last =
    let parts = and_parts (counts before first) (all_count removed events) so_far in
    and_from (counts before first) (all_count (removed ++ count ∷ []) (events ++ event ∷ [])) parts.0 (count_more removed events count event parts.1 last)

pub count_missed : (removed : List ℕ) (events : List Event) (i count : ℕ) (event : Event) → i < length removed → i < length events
    → counts (get_or removed i count) (get_or events i event) ≡ false → all_count removed events ≡ false
count_missed [] events i count event within also none = absurd (omega (arith, within))
count_missed (first ∷ removed) [] i count event within also none = refl
count_missed (first ∷ removed) (next ∷ events) zero count event within also none = ap (λ found. found && all_count removed events) none
count_missed (first ∷ removed) (next ∷ events) (suc i) count event within also none =
    ap (λ rest. counts first next && rest) (count_missed removed events i count event (omega (arith, within)) (omega (arith, also)) none) ∙ and_false (counts first next)

-- ---- fetches

pub before_none : (given : List Told) (reply : Reply) → told_before given reply [] ≡ None
before_none [] reply = refl
before_none (one ∷ given) reply = refl

pub before_missed : (given : List Told) (reply : Reply) (events : List Event) (last : Event) → replies reply last ≡ false → told_before given reply (events ++ last ∷ []) ≡ None
before_missed [] reply [] last other = ap (λ b. cond b (Some []) None) other
before_missed [] reply (event ∷ []) last other = refl
before_missed [] reply (event ∷ (next ∷ events)) last other = refl
before_missed (one ∷ given) reply [] last other = ap (joined (told_by one last)) (before_none given reply) ∙ joined_none (told_by one last)
before_missed (one ∷ given) reply (event ∷ events) last other = ap (joined (told_by one event)) (before_missed given reply events last other) ∙ joined_none (told_by one event)

pub before_told : (given : List Told) (reply : Reply) (events : List Event) (last : Event) → replies reply last ≡ true
    → told_before given reply (events ++ last ∷ []) ≡ all_told_by given events
before_told [] reply [] last told = ap (λ b. cond b (Some []) None) told
before_told [] reply (event ∷ []) last told = refl
before_told [] reply (event ∷ (next ∷ events)) last told = refl
before_told (one ∷ given) reply [] last told = ap (joined (told_by one last)) (before_none given reply) ∙ joined_none (told_by one last)
before_told (one ∷ given) reply (event ∷ events) last told = ap (joined (told_by one event)) (before_told given reply events last told)

-- ---- in loops, where an event is told by what points to it

read_now : {B : Type 0} (now : B → Event) (events : List B) (i : ℕ) (event : B) → i < length events → event ≡ get_or events i event → get_or (map now events) i (now event) ≡ now event
read_now now events i event within is = get_or-map now events i event (now event) within ∙ ap now (sym is)

take_now : {B : Type 0} (now : B → Event) (events : List B) (i : ℕ) (event : B) → i < length events → event ≡ get_or events i event
    → take (i + 1) (map now events) ≡ take i (map now events) ++ now event ∷ []
take_now now events i event within is =
    let size = length-map events now in
    take_more (map now events) i (now event) (omega (arith, within, size)) ∙ ap (λ e. take i (map now events) ++ e ∷ []) (read_now now events i event within is)

pub told_on : {B : Type 0} (now : B → Event) (given : List Told) (events : List B) (told : List Told) (i : ℕ) (one : Told) (event : B) (next : Told) → i < length given → i < length events
    → one ≡ get_or given i one → event ≡ get_or events i event → all_told_by (take i given) (take i (map now events)) ≡ Some told → told_by one (now event) ≡ Some next
    → all_told_by (take (i + 1) given) (take (i + 1) (map now events)) ≡ Some (told ++ next ∷ [])
told_on now given events told i one event next within also is event_is so_far last =
    let more = take_more given i one within ∙ ap (λ o. take i given ++ o ∷ []) (sym is) in
    let behind = take_now now events i event also event_is in
    (λ j. all_told_by (more j) (behind j)) ∙ told_more (take i given) (take i (map now events)) told one (now event) next so_far last

pub told_off : {B : Type 0} (now : B → Event) (given : List Told) (events : List B) (i : ℕ) (one : Told) (event : B) → i < length given → i < length events
    → one ≡ get_or given i one → event ≡ get_or events i event → told_by one (now event) ≡ None → all_told_by given (map now events) ≡ None
told_off now given events i one event within also is event_is none =
    let size = length-map events now in
    told_missed given (map now events) i one (now event) within (omega (arith, also, size))
    ((λ j. told_by (sym is j) (read_now now events i event also event_is j)) ∙ none)

pub count_on : {B : Type 0} (now : B → Event) (removed : List ℕ) (events : List B) (i : ℕ) (event : B) → i < length removed → i < length events
    → event ≡ get_or events i event → all_count (take i removed) (take i (map now events)) ≡ true → counts (get_or removed i 0) (now event) ≡ true
    → all_count (take (i + 1) removed) (take (i + 1) (map now events)) ≡ true
count_on now removed events i event within also event_is so_far last =
    let more = take_more removed i 0 within in
    let behind = take_now now events i event also event_is in
    (λ j. all_count (more j) (behind j)) ∙ count_more (take i removed) (take i (map now events)) (get_or removed i 0) (now event) so_far last

pub count_off : {B : Type 0} (now : B → Event) (removed : List ℕ) (events : List B) (i : ℕ) (event : B) → i < length removed → i < length events
    → event ≡ get_or events i event → counts (get_or removed i 0) (now event) ≡ false → all_count removed (map now events) ≡ false
count_off now removed events i event within also event_is none =
    let size = length-map events now in
    count_missed removed (map now events) i 0 (now event) within (omega (arith, also, size)) (ap (counts (get_or removed i 0)) (read_now now events i event also event_is) ∙ none)

-- lists of other lengths
pub told_apart : {B : Type 0} (now : B → Event) (given : List Told) (events : List B) → (length given ≡ length events → ⊥) → all_told_by given (map now events) ≡ None
told_apart now given events other = told_unlike given (map now events) (λ same. other (same ∙ length-map events now))

pub count_apart : {B : Type 0} (now : B → Event) (removed : List ℕ) (events : List B) → (length removed ≡ length events → ⊥) → all_count removed (map now events) ≡ false
count_apart now removed events other = count_unlike removed (map now events) (λ same. other (same ∙ length-map events now))

-- no events at all
pub before_nothing : {B : Type 0} (now : B → Event) (given : List Told) (reply : Reply) (events : List B) → length events ≡ 0 → told_before given reply (map now events) ≡ None
before_nothing now given reply [] none = before_none given reply
before_nothing now given reply (event ∷ events) none = absurd (omega (arith, none))

-- the last event and those before it
pub split_now : {B : Type 0} (now : B → Event) (events before : List B) (last : B) → events ≡ before ++ last ∷ [] → map now events ≡ map now before ++ now last ∷ []
split_now now events before last are = ap (map now) are ∙ map-append now before (last ∷ [])
