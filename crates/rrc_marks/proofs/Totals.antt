-- SPDX-License-Identifier: MIT
-- Sums over what all passes know.
use Rattle.std.proofs.Common.{◌≡◌, ◌≢◌, ℕ, zero, suc, ◌+◌, ◌<◌, ◌≤◌, List, [], ◌∷◌, ◌++◌, set, refl, sym, ap, ◌∙◌, subst, ⊎_elim, arith}
use mathlib.Core.Option.{some, some-injective, some-ne-none}
use lib.ListN.{get_elem?}
use Rattle.atomic_table.proofs.Lists.{at_set, at_snoc}
use Rattle.rrc_marks.specs.declared.rule.View.{View}
use Rattle.rrc_marks.specs.Views.{spent_view, all_turns}
use Rattle.rrc_marks.specs.Rule.{total, Stands}

pub total-set : (f : View → ℕ) (views : List View) (id : ℕ) (v w : View) → get_elem? views id ≡ some v → total f (set views id w) + f v ≡ total f views + f w
total-set f [] id v w at = absurd (some-ne-none v (sym at))
total-set f (x ∷ xs) zero v w at = let is : f x ≡ f v = ap f (some-injective x v at) in omega arith
total-set f (x ∷ xs) (suc id) v w at = let r = total-set f xs id v w at in omega arith

pub total-push : (f : View → ℕ) (views : List View) (w : View) → total f (views ++ w ∷ []) ≡ total f views + f w
total-push f [] w = omega arith
total-push f (x ∷ xs) w = let r = total-push f xs w in omega arith

pub total-sum : (f g : View → ℕ) (views : List View) → total (λ v. f v + g v) views ≡ total f views + total g views
total-sum f g [] = refl
total-sum f g (x ∷ xs) = let r = total-sum f g xs in omega arith

pub part_le : (f : View → ℕ) (views : List View) (id : ℕ) (v : View) → get_elem? views id ≡ some v → f v ≤ total f views
part_le f [] id v at = absurd (some-ne-none v (sym at))
part_le f (x ∷ xs) zero v at = let is : f x ≡ f v = ap f (some-injective x v at) in omega arith
part_le f (x ∷ xs) (suc id) v at = let r = part_le f xs id v at in omega arith

pub two_parts_le : (f : View → ℕ) (views : List View) (i j : ℕ) (v w : View) → i ≢ j → get_elem? views i ≡ some v → get_elem? views j ≡ some w → f v + f w ≤ total f views
two_parts_le f [] i j v w apart at there = absurd (some-ne-none v (sym at))
two_parts_le f (x ∷ xs) zero zero v w apart at there = absurd (apart refl)
two_parts_le f (x ∷ xs) zero (suc j) v w apart at there = let is : f x ≡ f v = ap f (some-injective x v at) in let part = part_le f xs j w there in omega arith
two_parts_le f (x ∷ xs) (suc i) zero v w apart at there = let is : f x ≡ f w = ap f (some-injective x w there) in let part = part_le f xs i v at in omega arith
two_parts_le f (x ∷ xs) (suc i) (suc j) v w apart at there = let r = two_parts_le f xs i j v w (λ e. apart (ap suc e)) at there in omega arith

-- each view stands, or is spent
abbrev pub AllStand : ℕ → List View → Type 0
AllStand turns views = (id : ℕ) (v : View) → get_elem? views id ≡ some v → Stands turns v

pub AllStand-set : (turns : ℕ) (views : List View) (id : ℕ) (w : View) → AllStand turns views → Stands turns w → AllStand turns (set views id w)
AllStand-set turns views id w all mine j u at =
    ⊎_elim
    (λ (x : (j ≡ id) × (w ≡ u)). subst (Stands turns) x.1 mine)
    (λ (x : (j ≢ id) × (get_elem? views j ≡ some u)). all j u x.1)
    (at_set views id j w u at)

pub AllStand-push : (turns : ℕ) (views : List View) (w : View) → AllStand turns views → Stands turns w → AllStand turns (views ++ w ∷ [])
AllStand-push turns views w all mine j u at =
    ⊎_elim
    (λ (there : get_elem? views j ≡ some u). all j u there)
    (λ (is : w ≡ u). subst (Stands turns) is mine)
    (at_snoc views w u j at)

-- a view of no turns is spent
weightless : (turns : ℕ) (v : View) → Stands turns v → all_turns v ≡ 0 → v ≡ spent_view
weightless turns v stands none =
    ⊎_elim (λ (h : (v.start ≡ turns) × (0 < all_turns v)). absurd (let has = h.1 in omega arith)) (λ (is : v ≡ spent_view). is) stands

module _ (f : View → ℕ) (nothing : f spent_view ≡ 0) (turns : ℕ) where
  total-weightless : (views : List View) → AllStand turns views → total all_turns views ≡ 0 → total f views ≡ 0
  total-weightless [] all none = refl
  total-weightless (x ∷ xs) all none =
      let is = weightless turns x (all zero x refl) (omega arith) in
      let mine : f x ≡ 0 = ap f is ∙ nothing in
      let r = total-weightless xs (λ id v at. all (suc id) v at) (omega arith) in
      omega arith

  -- where one view has all the turns, it has all of whatever a spent view has none of
  pub total-alone : (views : List View) (id : ℕ) (v : View) → AllStand turns views → get_elem? views id ≡ some v → total all_turns views ≤ all_turns v → total f views ≡ f v
  total-alone [] id v all at most = absurd (some-ne-none v (sym at))
  total-alone (x ∷ xs) zero v all at most =
      let same = some-injective x v at in
      let is : f x ≡ f v = ap f same in
      let heavy : all_turns x ≡ all_turns v = ap all_turns same in
      let r = total-weightless xs (λ id u there. all (suc id) u there) (omega arith) in
      omega arith
  total-alone (x ∷ xs) (suc id) v all at most =
      let mine : all_turns v ≤ total all_turns xs = part_le all_turns xs id v at in
      let is = weightless turns x (all zero x refl) (omega arith) in
      let none : f x ≡ 0 = ap f is ∙ nothing in
      let r = total-alone xs id v (λ j u there. all (suc j) u there) at (omega arith) in
      omega arith
