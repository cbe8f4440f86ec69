-- SPDX-License-Identifier: MIT
-- A step of any kind is counted once.
use Rattle.std.proofs.Common.{◌≡◌, ◌≢◌, ℕ, ◌+◌, List, [], ◌∷◌, ◌++◌, get_or, set, refl, sym, ◌∙◌, subst, arith}
use mathlib.Core.Option.{some}
use lib.ListN.{get_elem?}
use Rattle.atomic_table.proofs.Lists.{set_else}
use Rattle.rrc_marks.specs.declared.rule.View.{View}
use Rattle.rrc_marks.specs.Views.{spent_view, after_step, after_draw, after_win, after_finish, after_split, split_off, after_join}
use Rattle.rrc_marks.specs.Rule.{total}
use Rattle.rrc_marks.specs.Steps.{Moment, draws, wins, loses, finishes, splits, joins, looks}
use Rattle.rrc_marks.specs.Laws.{EachStepIsCounted}
use Rattle.rrc_marks.proofs.Totals.{total-set, total-push}

abbrev steps_of : View → ℕ
steps_of v = v.steps

-- the steps of all passes, at a moment
abbrev all_steps : List View → ℕ
all_steps views = total (λ w. w.steps) views

module _ (views : List View) (id : ℕ) (v : View) (at : get_elem? views id ≡ some v) where
  -- one pass has taken one step more
  one_more : (w : View) → w.steps ≡ v.steps + 1 → all_steps (set views id w) ≡ all_steps views + 1
  one_more w more = let change = total-set steps_of views id v w at in omega arith

  split_counts : (k : ℕ) → all_steps (set views id (after_split k v) ++ split_off k v ∷ []) ≡ all_steps views + 1
  split_counts k = let change = total-set steps_of views id v (after_split k v) at in let new = total-push steps_of (set views id (after_split k v)) (split_off k v) in omega arith

  join_counts : (other : ℕ) (w : View) → other ≢ id → get_elem? views other ≡ some w → all_steps (set (set views id (after_join v w)) other spent_view) ≡ all_steps views + 1
  join_counts other w apart there =
      let after : List View = set views id (after_join v w) in
      let still : get_elem? after other ≡ some w = set_else views id other (after_join v w) apart ∙ there in
      let change = total-set steps_of views id v (after_join v w) at in
      let spent = total-set steps_of after other w spent_view still in
      omega arith

-- a moment of as many steps as another and one
abbrev CountsOne : Moment → Moment → Type 0
CountsOne s t = all_steps t.views ≡ all_steps s.views + 1

pub steps_count : EachStepIsCounted
steps_count marks draws id v s t at step = subst (CountsOne s) (sym step.1) (one_more s.views id v at (after_draw (get_or s.words 0 0) v) refl)
steps_count marks (wins m) id v s t at step = subst (CountsOne s) (sym step.2) (one_more s.views id v at (after_win m v) refl)
steps_count marks (loses m) id v s t at step = subst (CountsOne s) (sym step.2) (one_more s.views id v at (after_step v) refl)
steps_count marks (finishes m) id v s t at step = subst (CountsOne s) (sym step.2) (one_more s.views id v at (after_finish m v) refl)
steps_count marks (splits k) id v s t at step = subst (CountsOne s) (sym step.3) (split_counts s.views id v at k)
steps_count marks (joins other) id v s t at step = subst (CountsOne s) (sym step.3) (join_counts s.views id v at other step.0 step.1 step.2)
steps_count marks looks id v s t at step = subst (CountsOne s) (sym step) (one_more s.views id v at (after_step v) refl)
