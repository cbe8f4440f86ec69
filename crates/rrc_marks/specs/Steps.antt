-- SPDX-License-Identifier: MIT
-- The kinds of step on a table of marks, each on one word by one pass.
use Rattle.std.specs.Prelude.{◌≡◌, ◌≢◌, ℕ, ◌+◌, ◌<◌, ◌≤◌, List, [], ◌∷◌, ◌++◌, slice_index, slice_set}
use mathlib.Core.Option.{some}
use lib.ListN.{get_elem?}
use Rattle.rrc_marks.specs.declared.rule.View.{View}
use Rattle.rrc_marks.specs.Views.{spent_view, after_step, after_draw, after_win, after_finish, after_split, split_off, after_join, all_turns, Holds}

-- the words of a table, and what its passes know
pub record Moment : Type 0 where
  pub words : List ℕ
  pub views : List View

-- the moment of these words and views
abbrev pub moment : List ℕ → List View → Moment
moment words views = record { words = words; views = views }

-- a draw, a begin that won or lost, a finish, each with its mark, a split with the turns that go, a join with the other pass, and the look behind a join
pub data Kind : Type 0 where
  draws : Kind
  wins : ℕ → Kind
  loses : ℕ → Kind
  finishes : ℕ → Kind
  splits : ℕ → Kind
  joins : ℕ → Kind
  looks : Kind

-- the pass id, which knows v, takes a table of so many marks from one moment to the next by one step of a kind
abbrev pub Steps : ℕ → Kind → ℕ → View → Moment → Moment → Type 0
Steps marks draws id v s t = (0 < v.turns) × (t ≡ moment (slice_set s.words 0 (slice_index s.words 0 + 1)) (slice_set s.views id (after_draw (slice_index s.words 0) v)))
Steps marks (wins m) id v s t = (m < marks) × (slice_index s.words (m + 1) ≡ 0) × (t ≡ moment (slice_set s.words (m + 1) 1) (slice_set s.views id (after_win m v)))
Steps marks (loses m) id v s t = (m < marks) × (slice_index s.words (m + 1) ≡ 1) × (t ≡ moment s.words (slice_set s.views id (after_step v)))
Steps marks (finishes m) id v s t = (m < marks) × Holds v m × (t ≡ moment (slice_set s.words (m + 1) 0) (slice_set s.views id (after_finish m v)))
Steps marks (splits turns) id v s t = (0 < turns) × (turns ≤ v.turns) × (turns < all_turns v) × (t ≡ moment s.words (slice_set s.views id (after_split turns v) ++ split_off turns v ∷ []))
Steps marks (joins other) id v s t = (w : View) × (other ≢ id) × (get_elem? s.views other ≡ some w) × (t ≡ moment s.words (slice_set (slice_set s.views id (after_join v w)) other spent_view))
Steps marks looks id v s t = t ≡ moment s.words (slice_set s.views id (after_step v))
