-- SPDX-License-Identifier: MIT
-- Each kind of step keeps the rule.
use Rattle.std.proofs.Common.{◌≡◌, ◌≢◌, ℕ, ◌+◌, ◌<◌, ◌≤◌, List, [], ◌∷◌, ◌++◌, length, get_or, set, refl, sym, ap, ◌∙◌, subst, inl, inr, ⊎_elim, arith, length-append, length-set, get_or-set_same, get_or-set_other}
use mathlib.Core.Option.{some}
use mathlib.Core.Logic.{dite}
use native.Mathlib.Decide.{ℕ_discrete}
use lib.ListN.{get_elem?}
use Rattle.atomic_table.proofs.Lists.{set_else}
use Rattle.rrc_marks.specs.declared.rule.View.{View}
use Rattle.rrc_marks.specs.Views.{times, without, spent_view, after_step, after_draw, after_win, after_finish, after_split, split_off, after_join, all_turns, Holds}
use Rattle.rrc_marks.specs.Rule.{total, Stands, MarksKept}
use Rattle.rrc_marks.proofs.Counts.{times-append, times-cons_same, times-cons_other, times-without_same, times-without_other, once_below-next}
use Rattle.rrc_marks.proofs.Totals.{total-set, total-push, part_le, AllStand-set, AllStand-push}

abbrev held : ℕ → View → ℕ
held m v = times m v.held

abbrev drawn : ℕ → View → ℕ
drawn x v = times x v.drawn

abbrev draws : View → ℕ
draws v = length v.drawn

abbrev turns_of : View → ℕ
turns_of v = v.turns

-- a pass that has turns, left or used, names those at the start
pub names : (turns : ℕ) (v : View) → Stands turns v → 0 < all_turns v → v.start ≡ turns
names turns v stands some_weight =
    ⊎_elim (λ (h : (v.start ≡ turns) × (0 < all_turns v)). h.0) (λ (is : v ≡ spent_view). absurd (let none : all_turns v ≡ 0 = ap all_turns is in omega arith)) stands

module _ (marks turns : ℕ) (words : List ℕ) (views : List View) (kept : MarksKept marks turns words views) (id : ℕ) (v : View) (at : get_elem? views id ≡ some v) where
  pub draw_keeps : 0 < v.turns → MarksKept marks turns (set words 0 (get_or words 0 0 + 1)) (set views id (after_draw (get_or words 0 0) v))
  draw_keeps some_turn =
      let n : ℕ = get_or words 0 0 in
      let w : View = after_draw n v in
      let sized = kept.sized in
      let room : 0 < length words = omega arith in
      let now : get_or (set words 0 (n + 1)) 0 0 ≡ n + 1 = get_or-set_same words 0 (n + 1) 0 room in
      let counted = kept.counted in
      let balanced = kept.balanced in
      let more = total-set draws views id v w at in
      let longer = length-append v.drawn (n ∷ []) in
      let fewer = total-set turns_of views id v w at in
      record {
        sized = length-set words 0 (n + 1) ∙ kept.sized;
        limited = kept.limited;
        holders = λ m. let same = total-set (held m) views id v w at in let was = kept.holders m in let far : m + 1 ≢ 0 = omega arith in rw get_or-set_other (omega arith);
        one_holder = λ m. let far : m + 1 ≢ 0 = omega arith in rw get_or-set_other (kept.one_holder m);
        each_once = λ x. let one = total-set (drawn x) views id v w at in let was = kept.each_once x in let parts = times-append x v.drawn (n ∷ []) in let next = once_below-next x n in rw now (omega arith);
        counted = rw now (omega arith);
        balanced = rw now (omega arith);
        standing = AllStand-set turns views id w kept.standing (inl (names turns v (kept.standing id v at) (omega arith), omega arith));
      }

  -- a step that changes no word
  pub step_keeps : 0 < all_turns v → MarksKept marks turns words (set views id (after_step v))
  step_keeps has =
      let w : View = after_step v in
      let counted = kept.counted in
      let balanced = kept.balanced in
      let same = total-set draws views id v w at in
      let alike = total-set turns_of views id v w at in
      record {
        sized = kept.sized;
        limited = kept.limited;
        holders = λ m. let change = total-set (held m) views id v w at in let was = kept.holders m in omega arith;
        one_holder = kept.one_holder;
        each_once = λ x. let change = total-set (drawn x) views id v w at in let was = kept.each_once x in omega arith;
        counted = omega arith;
        balanced = omega arith;
        standing = AllStand-set turns views id w kept.standing (inl (names turns v (kept.standing id v at) has, has));
      }

  -- a step on the word of the mark m, after which the pass holds these marks
  pub marked : (m new : ℕ) (marks_held : List ℕ) → 0 < all_turns v → m < marks → new ≤ 1
      → times m marks_held + get_or words (m + 1) 0 ≡ times m v.held + new → ((j : ℕ) → j ≢ m → times j marks_held ≡ times j v.held)
      → MarksKept marks turns (set words (m + 1) new) (set views id record { drawn = v.drawn; held = marks_held; turns = v.turns; start = v.start; steps = v.steps + 1 })
  marked m new marks_held has below bit mine others =
      let w : View = record { drawn = v.drawn; held = marks_held; turns = v.turns; start = v.start; steps = v.steps + 1 } in
      let sized = kept.sized in
      let room : m + 1 < length words = omega arith in
      let now : get_or (set words (m + 1) new) (m + 1) 0 ≡ new = get_or-set_same words (m + 1) new 0 room in
      let apart : 0 ≢ m + 1 = omega arith in
      let first : get_or (set words (m + 1) new) 0 0 ≡ get_or words 0 0 = rw get_or-set_other refl in
      let counted = kept.counted in
      let balanced = kept.balanced in
      let more = total-set draws views id v w at in
      let fewer = total-set turns_of views id v w at in
      record {
        sized = length-set words (m + 1) new ∙ kept.sized;
        limited = kept.limited;
        holders = λ j. dite (ℕ_discrete j m)
            (λ is. subst (λ (k : ℕ). total (held k) (set views id w) ≡ get_or (set words (m + 1) new) (k + 1) 0) (sym is)
            (let change = total-set (held m) views id v w at in let was = kept.holders m in rw now (omega arith)))
            (λ not. let far : j + 1 ≢ m + 1 = omega arith in let change = total-set (held j) views id v w at in let was = kept.holders j in let o = others j not in rw get_or-set_other (omega arith));
        one_holder = λ j. dite (ℕ_discrete j m)
            (λ is. subst (λ (k : ℕ). get_or (set words (m + 1) new) (k + 1) 0 ≤ 1) (sym is) (rw now bit))
            (λ not. let far : j + 1 ≢ m + 1 = omega arith in rw get_or-set_other (kept.one_holder j));
        each_once = λ x. let change = total-set (drawn x) views id v w at in let was = kept.each_once x in rw first (omega arith);
        counted = rw first (omega arith);
        balanced = rw first (omega arith);
        standing = AllStand-set turns views id w kept.standing (inl (names turns v (kept.standing id v at) has, has));
      }

  -- a mark that was free is held
  pub win_keeps : (m : ℕ) → 0 < all_turns v → m < marks → get_or words (m + 1) 0 ≡ 0 → MarksKept marks turns (set words (m + 1) 1) (set views id (after_win m v))
  win_keeps m has below free =
      let more = times-cons_same m v.held in
      marked m 1 (m ∷ v.held) has below (omega arith) (omega arith) (λ j not. times-cons_other j m v.held (λ e. not (sym e)))

  -- a mark that this pass holds is held by it alone, and once
  pub held_here : (m : ℕ) → Holds v m → (get_or words (m + 1) 0 ≡ 1) × (times m v.held ≡ 1)
  held_here m holds =
      let part = part_le (held m) views id v at in
      let was = kept.holders m in
      let bit = kept.one_holder m in
      (omega arith, omega arith)

  pub finish_keeps : (m : ℕ) → 0 < all_turns v → m < marks → Holds v m → MarksKept marks turns (set words (m + 1) 0) (set views id (after_finish m v))
  finish_keeps m has below holds =
      let here = held_here m holds in
      let none = times-without_same m v.held in
      marked m 0 (without m v.held) has below (omega arith) (omega arith) (λ j not. times-without_other j m v.held (λ e. not (sym e)))

  pub split_keeps : (k : ℕ) → 0 < k → k ≤ v.turns → k < all_turns v → MarksKept marks turns words (set views id (after_split k v) ++ split_off k v ∷ [])
  split_keeps k some_turns enough keeps =
      let after : List View = set views id (after_split k v) in
      let start = names turns v (kept.standing id v at) (omega arith) in
      let counted = kept.counted in
      let balanced = kept.balanced in
      let same = total-set draws views id v (after_split k v) at in
      let new = total-push draws after (split_off k v) in
      let fewer = total-set turns_of views id v (after_split k v) at in
      let more = total-push turns_of after (split_off k v) in
      record {
        sized = kept.sized;
        limited = kept.limited;
        holders = λ m. let a = total-set (held m) views id v (after_split k v) at in let b = total-push (held m) after (split_off k v) in let was = kept.holders m in omega arith;
        one_holder = kept.one_holder;
        each_once = λ x. let a = total-set (drawn x) views id v (after_split k v) at in let b = total-push (drawn x) after (split_off k v) in let was = kept.each_once x in omega arith;
        counted = omega arith;
        balanced = omega arith;
        standing = AllStand-push turns after (split_off k v) (AllStand-set turns views id (after_split k v) kept.standing (inl (start, omega arith))) (inl (start, omega arith));
      }

  pub join_keeps : (other : ℕ) (w : View) → 0 < all_turns v → other ≢ id → get_elem? views other ≡ some w
      → MarksKept marks turns words (set (set views id (after_join v w)) other spent_view)
  join_keeps other w has apart there =
      let both : View = after_join v w in
      let after : List View = set views id both in
      let still : get_elem? after other ≡ some w = set_else views id other both apart ∙ there in
      let start = names turns v (kept.standing id v at) has in
      let counted = kept.counted in
      let balanced = kept.balanced in
      let long = length-append v.drawn w.drawn in
      let a = total-set draws views id v both at in
      let b = total-set draws after other w spent_view still in
      let c = total-set turns_of views id v both at in
      let d = total-set turns_of after other w spent_view still in
      record {
        sized = kept.sized;
        limited = kept.limited;
        holders = λ m. let e = total-set (held m) views id v both at in let f = total-set (held m) after other w spent_view still in let parts = times-append m v.held w.held in let was = kept.holders m in omega arith;
        one_holder = kept.one_holder;
        each_once = λ x. let e = total-set (drawn x) views id v both at in let f = total-set (drawn x) after other w spent_view still in let parts = times-append x v.drawn w.drawn in let was = kept.each_once x in omega arith;
        counted = omega arith;
        balanced = omega arith;
        standing = AllStand-set turns after other spent_view (AllStand-set turns views id both kept.standing (inl (start, omega arith))) (inr refl);
      }
