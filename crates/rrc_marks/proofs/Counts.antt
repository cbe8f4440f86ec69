-- SPDX-License-Identifier: MIT
-- How often a number stands in a list.
use Rattle.std.proofs.Common.{◌≡◌, ◌≢◌, ℕ, zero, suc, ◌+◌, ◌<◌, ◌≤◌, cond, eqb, List, [], ◌∷◌, ◌++◌, length, get_or, refl, sym, ap, ◌∙◌, subst, arith, eq-eqb, ne_eqb}
use mathlib.Core.Logic.{dite}
use native.Mathlib.Decide.{ℕ_discrete}
use Rattle.std.proofs.lemmas.Grind.{common_steps}
use Rattle.rrc_marks.specs.Views.{times, without, once_below}

pub times-append : (x : ℕ) (xs ys : List ℕ) → times x (xs ++ ys) ≡ times x xs + times x ys
times-append x [] ys = omega arith
times-append x (y ∷ xs) ys = let r = times-append x xs ys in omega arith

pub times-cons_same : (x : ℕ) (xs : List ℕ) → times x (x ∷ xs) ≡ times x xs + 1
times-cons_same x xs = subst (λ b. cond b 1 0 + times x xs ≡ times x xs + 1) (sym (eq-eqb x x refl)) (omega arith)

pub times-cons_other : (x y : ℕ) (xs : List ℕ) → y ≢ x → times x (y ∷ xs) ≡ times x xs
times-cons_other x y xs n = subst (λ b. cond b 1 0 + times x xs ≡ times x xs) (sym (ne_eqb y x n)) (omega arith)

pub times-without_same : (x : ℕ) (xs : List ℕ) → times x (without x xs) ≡ 0
times-without_same x [] = refl
times-without_same x (y ∷ xs) = dite (ℕ_discrete y x)
    (λ e. subst (λ b. times x (cond b (without x xs) (y ∷ without x xs)) ≡ 0) (sym (eq-eqb y x e)) (times-without_same x xs))
    (λ n. subst (λ b. times x (cond b (without x xs) (y ∷ without x xs)) ≡ 0) (sym (ne_eqb y x n)) (times-cons_other x y (without x xs) n ∙ times-without_same x xs))

pub times-without_other : (x m : ℕ) (xs : List ℕ) → m ≢ x → times x (without m xs) ≡ times x xs
times-without_other x m [] apart = refl
times-without_other x m (y ∷ xs) apart = dite (ℕ_discrete y m)
    (λ e. subst (λ b. times x (cond b (without m xs) (y ∷ without m xs)) ≡ times x (y ∷ xs)) (sym (eq-eqb y m e))
    (times-without_other x m xs apart ∙ sym (times-cons_other x y xs (λ s. apart (sym e ∙ s)))))
    (λ n. subst (λ b. times x (cond b (without m xs) (y ∷ without m xs)) ≡ times x (y ∷ xs)) (sym (ne_eqb y m n))
    (ap (λ k. cond (eqb y x) 1 0 + k) (times-without_other x m xs apart)))

pub times-get_or : (xs : List ℕ) (k d : ℕ) → k < length xs → 0 < times (get_or xs k d) xs
times-get_or [] k d h = absurd (omega arith)
times-get_or (x ∷ xs) zero d h = let e = times-cons_same x xs in omega arith
times-get_or (x ∷ xs) (suc k) d h = let r = times-get_or xs k d (omega arith) in omega arith

pub once_below-next : (x n : ℕ) → once_below x (n + 1) ≡ once_below x n + times x (n ∷ [])
once_below-next x n = grind (arith, common_steps)

pub once_below-some : (x n : ℕ) → 0 < once_below x n → x < n
once_below-some x n h = grind (arith, common_steps)

pub once_below-le : (x n : ℕ) → once_below x n ≤ 1
once_below-le x n = grind (arith, common_steps)

pub once_below-self : (n : ℕ) → once_below n n ≡ 0
once_below-self n = grind (arith, common_steps)
