-- SPDX-License-Identifier: MIT
-- The rule of a table of marks: a fact about its words and about what all passes know, at every moment between two steps.
use Rattle.std.specs.Prelude.{◌≡◌, ℕ, ◌+◌, ◌^◌, ◌<◌, ◌≤◌, ◌⊎◌, List, [], ◌∷◌, length, slice_index}
use mathlib.Core.Option.{some}
use lib.ListN.{get_elem?}
use Rattle.rrc_marks.specs.declared.rule.View.{View}
use Rattle.rrc_marks.specs.Views.{times, once_below, spent_view, all_turns}

-- f of each view, added up
abbrev pub total : (View → ℕ) → List View → ℕ
total f [] = 0
total f (v ∷ vs) = f v + total f vs

-- a pass names the turns at the start, and has some, left or used; or it is spent
abbrev pub Stands : ℕ → View → Type 0
Stands turns v = ((v.start ≡ turns) × (0 < all_turns v)) ⊎ (v ≡ spent_view)

-- word 0 counts the draws, and word m + 1 is 1 exactly where one pass holds the mark m
pub record MarksKept (marks turns : ℕ) (words : List ℕ) (views : List View) : Type 0 where
  pub sized : length words ≡ marks + 1
  pub limited : turns ≤ 2 ^ 40
  -- a mark is held by as many passes as its word says, and that is at most one
  pub holders : (m : ℕ) → total (λ v. times m v.held) views ≡ slice_index words (m + 1)
  pub one_holder : (m : ℕ) → slice_index words (m + 1) ≤ 1
  -- the numbers below word 0 stand in the lists, each once, and no others do
  pub each_once : (x : ℕ) → total (λ v. times x v.drawn) views ≡ once_below x (slice_index words 0)
  pub counted : total (λ v. length v.drawn) views ≡ slice_index words 0
  -- no turn is lost, and none comes up
  pub balanced : slice_index words 0 + total (λ v. v.turns) views ≡ turns
  pub standing : (id : ℕ) (v : View) → get_elem? views id ≡ some v → Stands turns v
