-- SPDX-License-Identifier: MIT
-- What each step on the table asks: whatever the table is, the pass has a new view that keeps the rule, and what the step tells is true.
use Rattle.std.proofs.Common.{◌≡◌, ◌≢◌, ℕ, ◌+◌, ◌%◌, ◌^◌, ◌<◌, ◌≤◌, List, [], ◌∷◌, ◌++◌, length, get_or, set, eqb, refl, sym, ap, ◌∙◌, subst, arith, eq-eqb, ne_eqb}
use Rattle.std.proofs.lemmas.List.{set-get_or}
use mathlib.Core.Logic.{dite}
use native.Mathlib.Decide.{ℕ_discrete}
use mathlib.Core.Option.{none, some}
use lib.ListN.{get_elem?}
use prog.Atomic.{either}
use Rattle.atomic_table.specs.Table.{State, step, keeps, Allows, Splits, Joins, Seen}
use Rattle.rrc_marks.specs.declared.rule.View.{View}
use Rattle.rrc_marks.specs.Views.{times, after_step, after_draw, after_win, after_finish, after_split, split_off, after_join, spent_view, all_turns, IsAlone, Holds}
use Rattle.rrc_marks.specs.Rule.{total, MarksKept}
use Rattle.rrc_marks.specs.Ends.{IsSettled}
use Rattle.rrc_marks.specs.Steps.{Moment, moment, draws, wins, finishes, splits, joins}
use Rattle.rrc_marks.specs.Told.{Known, Draws, Exchanges, IsBounded, TellsDraw, TellsBegin, TellsFinish, TellsLook}
use Rattle.atomic_table.proofs.Lists.{set_else}
use Rattle.rrc_marks.proofs.Counts.{times-get_or, once_below-some, once_below-le}
use Rattle.rrc_marks.proofs.Totals.{part_le, total-sum, total-alone}
use Rattle.rrc_marks.proofs.Keeps.{names, held_here, step_keeps}
use Rattle.rrc_marks.proofs.StepsKeep.{steps_keep}

abbrev pub Kept : ℕ → ℕ → State (Unit {0}) View → Type 0
Kept marks turns s = MarksKept marks turns s.words s.views

-- the words and the views of a table
abbrev at_first : State (Unit {0}) View → Moment
at_first s = moment s.words s.views

-- all that the passes have, turns and draws, is the turns at the start
whole : (marks turns : ℕ) (words : List ℕ) (views : List View) → MarksKept marks turns words views → total all_turns views ≡ turns
whole marks turns words views kept =
    let parts = total-sum (λ v. v.turns) (λ v. length v.drawn) views in
    let balanced = kept.balanced in
    let counted = kept.counted in
    omega arith

module _ (marks turns : ℕ) (words : List ℕ) (views : List View) (kept : MarksKept marks turns words views) (id : ℕ) (v : View) (at : get_elem? views id ≡ some v) (has : 0 < all_turns v) where
  -- what a pass that is alone has none of, no pass has
  alone : (f : View → ℕ) → f spent_view ≡ 0 → IsAlone v → total f views ≡ f v
  alone f nothing all =
      let sum = whole marks turns words views kept in
      let start = names turns v (kept.standing id v at) has in
      total-alone f nothing turns views id v kept.standing at (omega arith)

  draws_next : 0 < v.turns → Draws v (get_or words 0 0) (after_draw (get_or words 0 0) v)
  draws_next some_turn = record {
    after = refl;
    below = let start = names turns v (kept.standing id v at) has in let least = part_le (λ u. u.turns) views id v at in let balanced = kept.balanced in omega arith;
    greatest = λ k d h.
        let x : ℕ = get_or v.drawn k d in
        let there = times-get_or v.drawn k d h in
        let part = part_le (λ u. times x u.drawn) views id v at in
        let was = kept.each_once x in
        once_below-some x (get_or words 0 0) (omega arith);
    next = λ all. let one = alone (λ u. length u.drawn) refl all in let counted = kept.counted in omega arith;
  }

pub draw_allowed : (marks turns slots id : ℕ) (me : Known) → 0 < me.0.turns
    → Allows (Kept marks turns) slots id me 0 (λ n. (n + 1) % 2 ^ 64) (TellsDraw (step slots 0 1 0 none) me)
draw_allowed marks turns slots id me some_turn s kept _ at _ =
    let n : ℕ = get_or s.words 0 0 in
    let least = part_le (λ v. v.turns) s.views id me.0 at in
    let balanced = kept.balanced in
    let limited = kept.limited in
    let plain : (n + 1) % 18446744073709551616 ≡ n + 1 = omega arith in
    (after_draw n me.0, keeps, tt, subst (λ (k : ℕ). MarksKept marks turns (set s.words 0 k) (set s.views id (after_draw n me.0))) (sym plain) (steps_keep marks turns draws id me.0 (at_first s) (moment (set s.words 0 (n + 1)) (set s.views id (after_draw n me.0))) kept at (omega arith) (some_turn, refl)), (draws_next marks turns s.words s.views kept id me.0 at (omega arith) some_turn, refl))

-- where a step writes what it found, the rule is kept
stays : (marks turns : ℕ) (words : List ℕ) (views : List View) (i id : ℕ) (v : View) → MarksKept marks turns words views → get_elem? views id ≡ some v → 0 < all_turns v
    → MarksKept marks turns (set words i (get_or words i 0)) (set views id (after_step v))
stays marks turns words views i id v kept at has = subst (λ (ws : List ℕ). MarksKept marks turns ws (set views id (after_step v))) (sym (set-get_or words i 0)) (step_keeps marks turns words views kept id v at has)

module _ (marks turns : ℕ) (words : List ℕ) (views : List View) (kept : MarksKept marks turns words views) (id : ℕ) (v : View) (at : get_elem? views id ≡ some v) (has : 0 < all_turns v) where
  -- the exchange of a mark, of which x was found, after which the pass knows w
  exchanges : (m : ℕ) (w : View) → (get_or words (m + 1) 0 ≡ 0 → w ≡ after_win m v) → (get_or words (m + 1) 0 ≢ 0 → w ≡ after_step v) → Exchanges v m (get_or words (m + 1) 0) w
  exchanges m w won lost = record {
    won = won;
    free = λ none. let part = part_le (λ u. times m u.held) views id v at in let was = kept.holders m in omega arith;
    lost = lost;
    own = λ holds none. let here = (held_here marks turns words views kept id v at m holds).0 in omega arith;
    alone = λ all lacks. let one = alone marks turns words views kept id v at has (λ u. times m u.held) refl all in let was = kept.holders m in omega arith;
  }

  bounded : IsBounded (after_step v)
  bounded = record {
    within = let part = part_le all_turns views id v at in let sum = whole marks turns words views kept in let start = names turns v (kept.standing id v at) has in omega arith;
    limited = let start = names turns v (kept.standing id v at) has in let limited = kept.limited in omega arith;
    drawn_once = λ x. let part = part_le (λ u. times x u.drawn) views id v at in let was = kept.each_once x in let most = once_below-le x (get_or words 0 0) in omega arith;
    held_once = λ m. let part = part_le (λ u. times m u.held) views id v at in let was = kept.holders m in let bit = kept.one_holder m in omega arith;
  }

  -- what the words are at the end
  pub ends : IsAlone v → v.held ≡ [] → IsSettled words v
  ends all free = record {
    free = λ m. let one = alone marks turns words views kept id v at has (λ u. times m u.held) refl all in let was = kept.holders m in let none : times m v.held ≡ 0 = ap (times m) free in omega arith;
    drawn_once = λ x. let one = alone marks turns words views kept id v at has (λ u. times x u.drawn) refl all in let was = kept.each_once x in omega arith;
    draws = let one = alone marks turns words views kept id v at has (λ u. length u.drawn) refl all in let counted = kept.counted in omega arith;
  }

-- the mark of a step on its word
same_mark : (mark other : ℕ) → mark + 1 ≡ other + 1 → other ≡ mark
same_mark mark other e = omega arith

pub begin_allowed : (marks turns slots id : ℕ) (me : Known) (mark : ℕ) → 0 < all_turns me.0 → mark < marks
    → Allows (Kept marks turns) slots id me (mark + 1) (λ n. either (eqb n 0) 1 n) (TellsBegin (step slots (mark + 1) 0 1 none) me)
begin_allowed marks turns slots id me mark has below s kept _ at _ =
    let x : ℕ = get_or s.words (mark + 1) 0 in
    let told = exchanges marks turns s.words s.views kept id me.0 at has mark in
    dite (ℕ_discrete x 0)
    (λ free. (
      after_win mark me.0,
      keeps,
      tt,
      subst (λ b. MarksKept marks turns (set s.words (mark + 1) (either b 1 x)) (set s.views id (after_win mark me.0))) (sym (eq-eqb x 0 free)) (steps_keep marks turns (wins mark) id me.0 (at_first s) (moment (set s.words (mark + 1) 1) (set s.views id (after_win mark me.0))) kept at has (below, free, refl)),
      λ other is. subst (λ k. Exchanges me.0 k x (after_win mark me.0) × (me.1 ≡ me.1)) (sym (same_mark mark other is)) (told (after_win mark me.0) (λ _. refl) (λ some. absurd (some free)), refl),
    ))
    (λ taken. (
      after_step me.0,
      keeps,
      tt,
      subst (λ b. MarksKept marks turns (set s.words (mark + 1) (either b 1 x)) (set s.views id (after_step me.0))) (sym (ne_eqb x 0 taken)) (stays marks turns s.words s.views (mark + 1) id me.0 kept at has),
      λ other is. subst (λ k. Exchanges me.0 k x (after_step me.0) × (me.1 ≡ me.1)) (sym (same_mark mark other is)) (told (after_step me.0) (λ free. absurd (taken free)) (λ _. refl), refl),
    ))

pub finish_allowed : (marks turns slots id : ℕ) (me : Known) (mark : ℕ) → 0 < all_turns me.0 → mark < marks → Holds me.0 mark
    → Allows (Kept marks turns) slots id me (mark + 1) (λ _. 0) (λ _. TellsFinish (step slots (mark + 1) 0 0 none) me 0)
finish_allowed marks turns slots id me mark has below holds s kept _ at _ = (
  after_finish mark me.0,
  keeps,
  tt,
  steps_keep marks turns (finishes mark) id me.0 (at_first s) (moment (set s.words (mark + 1) 0) (set s.views id (after_finish mark me.0))) kept at has (below, holds, refl),
  λ other is. ap (λ k. (after_finish k me.0, me.1)) (sym (same_mark mark other is)),
)

pub look_allowed : (marks turns slots id : ℕ) (me : Known) → 0 < all_turns me.0
    → Allows (Kept marks turns) slots id me 0 (λ n. n) (TellsLook (step slots 0 0 0 none) me)
look_allowed marks turns slots id me has s kept _ at _ =
    (after_step me.0, keeps, tt, stays marks turns s.words s.views 0 id me.0 kept at has, (refl, bounded marks turns s.words s.views kept id me.0 at has))

pub split_allowed : (marks turns id : ℕ) (v : View) (k : ℕ) → 0 < k → k ≤ v.turns → k < all_turns v → Splits (Kept marks turns) id v (after_split k v) (split_off k v)
split_allowed marks turns id v k some_turns enough keeps_some s kept at =
    steps_keep marks turns (splits k) id v (at_first s) (moment s.words (set s.views id (after_split k v) ++ split_off k v ∷ [])) kept at (omega arith) (some_turns, enough, keeps_some, refl)

pub join_allowed : (marks turns id : ℕ) (v : View) (other : ℕ) (w : View) → 0 < all_turns v → Joins (Kept marks turns) id v other w (after_join v w) spent_view
join_allowed marks turns id v other w has s kept at apart there =
    steps_keep marks turns (joins other) id v (at_first s) (moment s.words (set (set s.views id (after_join v w)) other spent_view)) kept at has (w, apart, sym (set_else s.views id other (after_join v w) apart) ∙ there, refl)

-- what the words are that a table hands out at its end
pub hands_out : (marks turns id : ℕ) (v : View) (words : List ℕ) (s : State (Unit {0}) View) → Seen (Kept marks turns) id v s → s.words ≡ words → 0 < all_turns v → IsAlone v → v.held ≡ []
    → IsSettled words v
hands_out marks turns id v words s seen is has all free = subst (λ ws. IsSettled ws v) is (ends marks turns s.words s.views seen.0 id v seen.1 has all free)
