-- SPDX-License-Identifier: MIT
-- the tables of fates and of turns
use Rattle.std.proofs.Common.{◌≡◌, ℕ, ◌+◌, ◌<◌, ◌≤◌, zero, suc, Bool, true, false, cond, eqb, List, [], ◌∷◌, ◌++◌, length, get_or, Option, Some, None, Result, Ok, Err, refl, sym, ◌∙◌, ap, subst, ⊎_elim, arith, IsTrue, ◌↔◌}
use Rattle.std.specs.Prelude.{IfOk, IfSome}
use Rattle.std.specs.List.{All, AllByRecursion}
use Rattle.std.proofs.lemmas.Bool.{cases_lt, eq-eqb, ne_eqb, cond-true, cond-false}
use Rattle.std.proofs.lemmas.List.{append-nil, append_assoc, get_or_past, get_or_default}
use Rattle.std.proofs.lemmas.List.Elements.{All-nil, All-cons, All-head, All-tail, recursion_from_All}
use Rattle.rrc_history.specs.declared.event.Event.{Event}
use Rattle.rrc_history.specs.declared.event.Tag.{Tag}
use Rattle.rrc_history.specs.declared.chains.Whole.{Whole}
use Rattle.rrc_collate.specs.declared.valued.Valued.{Valued}
use Rattle.rrc_collate.specs.declared.task.Task.{Task}
use Rattle.rrc_collate.specs.declared.task.Fate.{Fate}
use Rattle.rrc_collate.specs.declared.task.Fate.TheVariants.{Plain, Joined, Fetched}
use Rattle.rrc_collate.specs.Words.{NeverFalls}
use Rattle.rrc_collate.specs.Calls.{tag_of}
use Rattle.rrc_collate.specs.Hands.{AreNamed}
use Rattle.rrc_collate.specs.Fetches.{listed, IsNumbered}
use Rattle.rrc_collate.specs.Turns.{first_fate, fate_from, AreFates, last_from, turn_from, AreTurns, is_fetched, turn_with, turn_told, turns_told}
use Rattle.rrc_collate.specs.Collated.{last_behind, last_of, fate_of, turn_by, turn_at, turns_in, histories_of}
use Rattle.rrc_collate.proofs.Fetched.{with_listed}
use Rattle.rrc_collate.proofs.Pairs.{pairs_nil}

pub told_more : (fates : List (Option Fate)) (turns : List ℕ) (events : List Event) (next : Event)
    → turns_told fates turns (events ++ next ∷ []) ≡ turns_told fates turns events ++ listed (turn_told fates turns (tag_of next))
told_more fates turns [] next = append-nil (listed (turn_told fates turns (tag_of next)))
told_more fates turns (event ∷ events) next =
    ap (λ l. listed (turn_told fates turns (tag_of event)) ++ l) (told_more fates turns events next)
    ∙ sym (append_assoc (listed (turn_told fates turns (tag_of event))) (turns_told fates turns events) (listed (turn_told fates turns (tag_of next))))

-- what became of a line, from what is known of it
fate_known : (first : Fate) (line : ℕ) (tasks : List Task) → fate_from (Some first) line tasks ≡ Some first
fate_known first line [] = refl
fate_known first line (task ∷ tasks) =
    let rest = fate_known first line tasks in
    elim (eqb task.line line) as (λ b. fate_from (cond b (Some first) (Some first)) line tasks ≡ Some first) [ true ↦ rest | false ↦ rest ]

abbrev settled : Option Fate → Fate
settled None = Plain
settled (Some fate) = fate

settled_is : (line : ℕ) (tasks : List Task) → settled (fate_from None line tasks) ≡ fate_of line tasks
settled_is line [] = refl
settled_is line (task ∷ tasks) =
    elim (eqb task.line line) as (λ b. settled (fate_from (cond b (Some task.fate) None) line tasks) ≡ cond b task.fate (fate_of line tasks))
    [ true ↦ ap settled (fate_known task.fate line tasks) | false ↦ settled_is line tasks ]

-- the last event of a line, from what is known of it
abbrev known_or : ℕ → ℕ → ℕ → ℕ
known_or passed known zero = known
known_or passed known (suc last) = passed + suc last

last_step : (own : Bool) (passed known last : ℕ) → known_or (passed + 1) (cond own (passed + 1) known) last ≡ known_or passed known (last_behind own last)
last_step true passed known zero = refl
last_step false passed known zero = refl
last_step own passed known (suc last) = omega arith

last_is : (passed known line : ℕ) (events : List Event) → last_from passed known line events ≡ known_or passed known (last_of line events)
last_is passed known line [] = refl
last_is passed known line (event ∷ events) =
    last_is (passed + 1) (cond (eqb (tag_of event).line line) (passed + 1) known) line events ∙ last_step (eqb (tag_of event).line line) passed known (last_of line events)

none_known : (last : ℕ) → known_or 0 0 last ≡ last
none_known zero = refl
none_known (suc last) = omega arith

-- the turn of a fetch, from the parts
home_passed : (question home passed known line : ℕ) (histories : List (List Event)) → home < passed → turn_from (Some (Fetched question home)) passed known line histories ≡ known
home_passed question home passed known line [] behind = refl
home_passed question home passed known line (history ∷ histories) behind =
    ap (λ n. turn_from (Some (Fetched question home)) (passed + 1) n line histories)
    (cond-false (eqb home passed) (last_from 0 known line history) known (ne_eqb home passed (λ same. omega (arith, same, behind))))
    ∙ home_passed question home (passed + 1) known line histories (omega (arith, behind))

turn_is : (question home passed k line : ℕ) (histories : List (List Event)) → home ≡ passed + k
    → turn_from (Some (Fetched question home)) passed 0 line histories ≡ last_of line (get_or histories k [])
turn_is question home passed k line [] at = refl
turn_is question home passed zero line (history ∷ histories) at =
    ap (λ n. turn_from (Some (Fetched question home)) (passed + 1) n line histories)
    (cond-true (eqb home passed) (last_from 0 0 line history) 0 (eq-eqb home passed (omega (arith, at))))
    ∙ (home_passed question home (passed + 1) (last_from 0 0 line history) line histories (omega (arith, at))
    ∙ (last_is 0 0 line history ∙ none_known (last_of line history)))
turn_is question home passed (suc k) line (history ∷ histories) at =
    ap (λ n. turn_from (Some (Fetched question home)) (passed + 1) n line histories)
    (cond-false (eqb home passed) (last_from 0 0 line history) 0 (ne_eqb home passed (λ same. omega (arith, same, at))))
    ∙ turn_is question home (passed + 1) k line histories (omega (arith, at))

abbrev valued : ℕ → ℕ → Valued
valued class value = record { class = class; value = value }

with_is : (line : ℕ) (histories : List (List Event)) (fate : Option Fate) → listed (turn_with fate (turn_from fate 0 0 line histories)) ≡ turn_by histories line (settled fate)
with_is line histories None = refl
with_is line histories (Some Plain) = refl
with_is line histories (Some (Joined question)) = refl
with_is line histories (Some (Fetched question home)) = ap (λ n. valued question n ∷ []) (turn_is question home 0 home line histories (omega arith))

told_at : (lines : ℕ) (tasks : List Task) (histories : List (List Event)) (fates : List (Option Fate)) (turns : List ℕ) (tag : Tag) → AreFates lines tasks fates
    → AreTurns fates histories turns → tag.line < lines → listed (turn_told fates turns tag) ≡ turn_at tasks histories tag
told_at lines tasks histories fates turns tag are_fates are_turns within =
    let line = tag.line in
    let fate = get_or fates line None in
    let size = are_fates.size in
    let turn = are_turns.each line (omega (arith, size, within)) in
    let is : listed (turn_with fate (get_or turns line 0)) ≡ turn_by histories line (fate_of line tasks) =
    ap (λ n. listed (turn_with fate n)) turn
    ∙ (with_is line histories fate ∙ ap (turn_by histories line) (ap settled (are_fates.each line within) ∙ settled_is line tasks)) in
    elim (eqb tag.place 0) as (λ b. listed (cond b None (turn_with fate (get_or turns line 0))) ≡ cond b [] (turn_by histories line (fate_of line tasks)))
    [ true ↦ refl | false ↦ is ]

told_is : (lines : ℕ) (tasks : List Task) (histories : List (List Event)) (fates : List (Option Fate)) (turns : List ℕ) (events : List Event) → AreFates lines tasks fates
    → AreTurns fates histories turns → AreNamed lines events → turns_told fates turns events ≡ turns_in tasks histories events
told_is lines tasks histories fates turns [] are_fates are_turns named = refl
told_is lines tasks histories fates turns (event ∷ events) are_fates are_turns named =
    let first = told_at lines tasks histories fates turns (tag_of event) are_fates are_turns (All-head (λ (event : Event). (tag_of event).line < lines) event events named) in
    let rest = told_is lines tasks histories fates turns events are_fates are_turns (All-tail (λ (event : Event). (tag_of event).line < lines) event events named) in
    ap (λ l. l ++ turns_told fates turns events) first ∙ ap (λ l. turn_at tasks histories (tag_of event) ++ l) rest

-- the questions are below their count
abbrev AreKnown : ℕ → Option Fate → Type 0
AreKnown questions fate = IfSome fate (λ known. IsNumbered questions known)

first_numbered : (questions : ℕ) (known : Option Fate) (fate : Fate) → AreKnown questions known → IsNumbered questions fate → AreKnown questions (first_fate known fate)
first_numbered questions None fate known numbered = numbered
first_numbered questions (Some first) fate known numbered = known

from_numbered : (questions line : ℕ) (known : Option Fate) (tasks : List Task) → AreKnown questions known → All (λ (task : Task). IsNumbered questions task.fate) tasks
    → AreKnown questions (fate_from known line tasks)
from_numbered questions line known [] is numbered = is
from_numbered questions line known (task ∷ tasks) is numbered =
    let first = first_numbered questions known task.fate is (All-head (λ (task : Task). IsNumbered questions task.fate) task tasks numbered) in
    let behind = All-tail (λ (task : Task). IsNumbered questions task.fate) task tasks numbered in
    elim (eqb task.line line) as (λ b. AreKnown questions (fate_from (cond b (first_fate known task.fate) known) line tasks))
    [ true ↦ from_numbered questions line (first_fate known task.fate) tasks first behind | false ↦ from_numbered questions line known tasks is behind ]

pub fates_numbered : (questions lines : ℕ) (tasks : List Task) (fates : List (Option Fate)) → AreFates lines tasks fates → All (λ (task : Task). IsNumbered questions task.fate) tasks
    → All (λ (fate : Option Fate). IfSome fate (λ known. IsNumbered questions known)) fates
fates_numbered questions lines tasks fates are numbered line d within =
    let size = are.size in
    let same : get_or fates line d ≡ fate_from None line tasks = get_or_default fates line d None within ∙ are.each line (omega (arith, size, within)) in
    subst (AreKnown questions) (sym same) (from_numbered questions line None tasks tt numbered)

with_below : (questions turn : ℕ) (fate : Option Fate) → AreKnown questions fate → IfSome (turn_with fate turn) (λ (valued : Valued). valued.class < questions)
with_below questions turn None known = tt
with_below questions turn (Some Plain) known = tt
with_below questions turn (Some (Joined question)) known = tt
with_below questions turn (Some (Fetched question home)) known = known

fate_at : (questions line : ℕ) (fates : List (Option Fate)) → All (λ (fate : Option Fate). IfSome fate (λ known. IsNumbered questions known)) fates
    → AreKnown questions (get_or fates line None)
fate_at questions line fates numbered =
    ⊎_elim
    (λ (within : line < length fates). numbered line None within)
    (λ (behind : length fates ≤ line). subst (AreKnown questions) (sym (get_or_past fates line None behind)) tt)
    (cases_lt line (length fates))

pub told_below : (questions : ℕ) (fates : List (Option Fate)) (turns : List ℕ) (events : List Event)
    → All (λ (fate : Option Fate). IfSome fate (λ known. IsNumbered questions known)) fates
    → All (λ (valued : Valued). valued.class < questions) (turns_told fates turns events)
told_below questions fates turns [] numbered = All-nil (λ (valued : Valued). valued.class < questions)
told_below questions fates turns (event ∷ events) numbered =
    let tag = tag_of event in
    let Below : Valued → Type 0 = λ valued. valued.class < questions in
    let own = with_below questions (get_or turns tag.line 0) (get_or fates tag.line None) (fate_at questions tag.line fates numbered) in
    let first : IfSome (turn_told fates turns tag) Below =
    elim (eqb tag.place 0) as (λ b. IfSome (cond b None (turn_with (get_or fates tag.line None) (get_or turns tag.line 0))) Below) [ true ↦ tt | false ↦ own ] in
    with_listed Below (turn_told fates turns tag) (turns_told fates turns events) first (told_below questions fates turns events numbered)

-- what rises by the tables rises
rise_to : (lines : ℕ) (tasks : List Task) (histories : List (List Event)) (fates : List (Option Fate)) (turns : List ℕ) (wholes : List Whole) → AreFates lines tasks fates
    → AreTurns fates histories turns → All (λ whole. AreNamed lines whole.events) wholes → All (λ whole. NeverFalls (turns_told fates turns whole.events)) wholes
    → All (λ history. NeverFalls (turns_in tasks histories history)) (histories_of wholes)
rise_to lines tasks histories fates turns [] are_fates are_turns named rise = All-nil (λ history. NeverFalls (turns_in tasks histories history))
rise_to lines tasks histories fates turns (whole ∷ wholes) are_fates are_turns named rise =
    All-cons (λ history. NeverFalls (turns_in tasks histories history)) whole.events (histories_of wholes)
    (subst NeverFalls (told_is lines tasks histories fates turns whole.events are_fates are_turns (All-head (λ (whole : Whole). AreNamed lines whole.events) whole wholes named))
    (All-head (λ (whole : Whole). NeverFalls (turns_told fates turns whole.events)) whole wholes rise))
    (rise_to lines tasks histories fates turns wholes are_fates are_turns (All-tail (λ (whole : Whole). AreNamed lines whole.events) whole wholes named)
    (All-tail (λ (whole : Whole). NeverFalls (turns_told fates turns whole.events)) whole wholes rise))

to_rise : (lines : ℕ) (tasks : List Task) (histories : List (List Event)) (fates : List (Option Fate)) (turns : List ℕ) (wholes : List Whole) → AreFates lines tasks fates
    → AreTurns fates histories turns → All (λ whole. AreNamed lines whole.events) wholes → All (λ history. NeverFalls (turns_in tasks histories history)) (histories_of wholes)
    → All (λ whole. NeverFalls (turns_told fates turns whole.events)) wholes
to_rise lines tasks histories fates turns [] are_fates are_turns named rise = All-nil (λ (whole : Whole). NeverFalls (turns_told fates turns whole.events))
to_rise lines tasks histories fates turns (whole ∷ wholes) are_fates are_turns named rise =
    All-cons (λ (whole : Whole). NeverFalls (turns_told fates turns whole.events)) whole wholes
    (subst NeverFalls (sym (told_is lines tasks histories fates turns whole.events are_fates are_turns (All-head (λ (whole : Whole). AreNamed lines whole.events) whole wholes named)))
    (All-head (λ (history : List Event). NeverFalls (turns_in tasks histories history)) whole.events (histories_of wholes) rise))
    (to_rise lines tasks histories fates turns wholes are_fates are_turns (All-tail (λ (whole : Whole). AreNamed lines whole.events) whole wholes named)
    (All-tail (λ (history : List Event). NeverFalls (turns_in tasks histories history)) whole.events (histories_of wholes) rise))

-- what `are_in_turn` answers, from what `all_rise` answered
pub in_turn_by : {E : Type 0} (result : Result Bool E) (lines : ℕ) (tasks : List Task) (fates : List (Option Fate)) (turns : List ℕ) (wholes : List Whole) → AreFates lines tasks fates
    → AreTurns fates (histories_of wholes) turns → All (λ whole. AreNamed lines whole.events) wholes
    → IfOk result (λ all. IsTrue all ↔ All (λ whole. NeverFalls (turns_told fates turns whole.events)) wholes)
    → IfOk result (λ all. IsTrue all ↔ All (λ history. NeverFalls (turns_in tasks (histories_of wholes) history)) (histories_of wholes))
in_turn_by (Err e) lines tasks fates turns wholes are_fates are_turns named told = tt
in_turn_by (Ok all) lines tasks fates turns wholes are_fates are_turns named told = (
  λ holds. rise_to lines tasks (histories_of wholes) fates turns wholes are_fates are_turns named (told.0 holds),
  λ rise. told.1 (to_rise lines tasks (histories_of wholes) fates turns wholes are_fates are_turns named rise),
)

-- ---- where nothing was fetched

abbrev HasNotFetched : Task → Type 0
HasNotFetched task = is_fetched task.fate ≡ false

unfetched_fate : (line : ℕ) (tasks : List Task) → AllByRecursion HasNotFetched tasks → is_fetched (fate_of line tasks) ≡ false
unfetched_fate line [] none = refl
unfetched_fate line (task ∷ tasks) none =
    let rest = unfetched_fate line tasks none.1 in
    elim (eqb task.line line) as (λ b. is_fetched (cond b task.fate (fate_of line tasks)) ≡ false) [ true ↦ none.0 | false ↦ rest ]

unfetched_turn : (histories : List (List Event)) (line : ℕ) (fate : Fate) → is_fetched fate ≡ false → turn_by histories line fate ≡ []
unfetched_turn histories line Plain none = refl
unfetched_turn histories line (Joined question) none = refl
unfetched_turn histories line (Fetched question home) none = absurd cc

no_turn : (tasks : List Task) (histories : List (List Event)) (tag : Tag) → AllByRecursion HasNotFetched tasks → turn_at tasks histories tag ≡ []
no_turn tasks histories tag none =
    let fetched = unfetched_turn histories tag.line (fate_of tag.line tasks) (unfetched_fate tag.line tasks none) in
    elim (eqb tag.place 0) as (λ b. cond b [] (turn_by histories tag.line (fate_of tag.line tasks)) ≡ []) [ true ↦ refl | false ↦ fetched ]

no_turns : (tasks : List Task) (histories : List (List Event)) (history : List Event) → AllByRecursion HasNotFetched tasks → turns_in tasks histories history ≡ []
no_turns tasks histories [] none = refl
no_turns tasks histories (event ∷ behind) none =
    ap (λ l. l ++ turns_in tasks histories behind) (no_turn tasks histories (tag_of event) none) ∙ no_turns tasks histories behind none

-- no history has fetches out of turn
pub none_out_of_turn : (tasks : List Task) (histories : List (List Event)) → All HasNotFetched tasks
    → All (λ history. NeverFalls (turns_in tasks histories history)) histories
none_out_of_turn tasks histories none k d lt =
    subst NeverFalls (sym (no_turns tasks histories (get_or histories k d) (recursion_from_All HasNotFetched tasks none)))
    (pairs_nil (λ (earlier later : Valued). earlier.class ≡ later.class → earlier.value ≤ later.value))
