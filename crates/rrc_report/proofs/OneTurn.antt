-- SPDX-License-Identifier: MIT
-- The tasks of one worker: the lines, one after another.
use Rattle.std.proofs.Common.{◌≡◌, ◌≢◌, ℕ, zero, suc, ◌+◌, ◌<◌, ◌≤◌, eqb, List, [], ◌∷◌, ◌++◌, map, length, get_or, Some, IsSome, All, AllPairs, refl, sym, ap, subst, ◌∙◌, ⊎_elim, arith}
use Rattle.std.proofs.lemmas.Bool.{cases_eq, eq-eqb, ne_eqb, cond-true, cond-false}
use Rattle.rrc_collate.specs.declared.valued.Valued.{Valued}
use Rattle.rrc_collate.specs.Words.{NeverFalls, NoneTwice, AllBelow, AreSharedOut, class_of}
use Rattle.rrc_report.specs.Reports.{taken_from}

-- ---- values one after another

-- the values of the first class, one after another, the first of which is this
abbrev pub AreInTurn : ℕ → List Valued → Type 0
AreInTurn number [] = Unit {0}
AreInTurn number (valued ∷ behind) = (valued ≡ record { class = 0; value = number }) × AreInTurn (number + 1) behind

-- no value is lower than one before it
abbrev pub Rise : List Valued → Type 0
Rise values = AllPairs (λ (earlier later : Valued). earlier.value ≤ later.value) values

-- all values are of the first class
abbrev pub AreFirst : List Valued → Type 0
AreFirst values = All (λ (valued : Valued). valued.class ≡ 0) values

-- each number from one up to a count stands once among values that never fall
pub record AreBetween (count number : ℕ) (values : List Valued) : Type 0 where
  pub first : AreFirst values
  pub below : AllBelow count values
  pub above : All (λ (valued : Valued). number ≤ valued.value) values
  pub once : NoneTwice values
  pub rise : Rise values
  pub each : (value : ℕ) → number ≤ value → value < count → IsSome (class_of value values)

-- a value that stands among values is one of them, and so no lower than what they all are at least
least : (low value : ℕ) (values : List Valued) → All (λ (valued : Valued). low ≤ valued.value) values → IsSome (class_of value values) → low ≤ value
least low value [] all stands = absurd cc
least low value (valued ∷ behind) all stands =
    ⊎_elim
    (λ (same : valued.value ≡ value). let first = all 0 valued (omega arith) in omega (arith, first, same))
    (λ (apart : valued.value ≡ value → ⊥).
    least low value behind (λ k d within. all (suc k) d (omega (arith, within)))
    (subst (λ o. IsSome o) (cond-false (eqb valued.value value) (Some valued.class) (class_of value behind) (ne_eqb valued.value value apart)) stands))
    (cases_eq valued.value value)

-- a value that stands among values, and is not the first, stands among the others
stands_behind : (value : ℕ) (valued : Valued) (behind : List Valued) → (valued.value ≡ value → ⊥) → IsSome (class_of value (valued ∷ behind)) → IsSome (class_of value behind)
stands_behind value valued behind apart stands =
    subst (λ o. IsSome o) (cond-false (eqb valued.value value) (Some valued.class) (class_of value behind) (ne_eqb valued.value value apart)) stands

first_is : (count number : ℕ) (valued : Valued) (behind : List Valued) → AreBetween count number (valued ∷ behind) → valued.value ≡ number
first_is count number valued behind are =
    ⊎_elim
    (λ (same : valued.value ≡ number). same)
    (λ (apart : valued.value ≡ number → ⊥).
    let above = are.above 0 valued (omega arith) in
    let below = are.below 0 valued (omega arith) in
    let stands = stands_behind number valued behind apart (are.each number (omega arith) (omega (arith, above, below))) in
    let low = least valued.value number behind (λ k d within. are.rise 0 (suc k) d (omega arith) (omega (arith, within))) stands in
    omega (arith, above, low))
    (cases_eq valued.value number)

others_are : (count number : ℕ) (valued : Valued) (behind : List Valued) → valued.value ≡ number → AreBetween count number (valued ∷ behind) → AreBetween count (number + 1) behind
others_are count number valued behind same are =
    record {
      first = λ k d within. are.first (suc k) d (omega (arith, within));
      below = λ k d within. are.below (suc k) d (omega (arith, within));
      above = above;
      once = λ i j d before within. are.once (suc i) (suc j) d (omega (arith, before)) (omega (arith, within));
      rise = λ i j d before within. are.rise (suc i) (suc j) d (omega (arith, before)) (omega (arith, within));
      each = λ value low high. stands_behind value valued behind (λ e. absurd (omega (arith, e, same, low))) (are.each value (omega (arith, low)) high);
    }
  where
    above : All (λ (other : Valued). number + 1 ≤ other.value) behind
    above k d within =
        let high : valued.value ≤ (get_or behind k d).value = are.rise 0 (suc k) d (omega arith) (omega (arith, within)) in
        let apart : valued.value ≢ (get_or behind k d).value = are.once 0 (suc k) d (omega arith) (omega (arith, within)) in
        ⊎_elim
        (λ (e : valued.value ≡ (get_or behind k d).value). absurd (apart e))
        (λ (e : valued.value ≡ (get_or behind k d).value → ⊥). omega (arith, same, high, e))
        (cases_eq valued.value (get_or behind k d).value)

-- they are those numbers, one after another
pub in_turn : (count number : ℕ) (values : List Valued) → AreBetween count number values → AreInTurn number values
in_turn count number [] are = tt
in_turn count number (valued ∷ behind) are =
    let value = first_is count number valued behind are in
    let class : valued.class ≡ 0 = are.first 0 valued (omega arith) in
    (λ i. record { class = class i; value = value i }, in_turn count (number + 1) behind (others_are count number valued behind value are))

-- and so many
pub as_many : (count number : ℕ) (values : List Valued) → number ≤ count → AreBetween count number values → number + length values ≡ count
as_many count number [] within are =
    ⊎_elim
    (λ (same : number ≡ count). omega (arith, same))
    (λ (apart : number ≡ count → ⊥). let stands : IsSome (class_of number []) = are.each number (omega arith) (omega (arith, within, apart)) in absurd cc)
    (cases_eq number count)
as_many count number (valued ∷ behind) within are =
    let value = first_is count number valued behind are in
    let below : valued.value < count = are.below 0 valued (omega arith) in
    let rest = as_many count (number + 1) behind (omega (arith, value, below)) (others_are count number valued behind value are) in
    omega (arith, rest)

-- ---- what one worker took

-- what the first of all workers took is of the first class
of_first : (share : List ℕ) → AreFirst (map (λ line. record { class = 0; value = line }) share ++ [])
of_first [] k d within = absurd (omega (arith, within))
of_first (line ∷ share) zero d within = refl
of_first (line ∷ share) (suc k) d within = of_first share k d (omega (arith, within))

pub first_class : (shares : List (List ℕ)) → length shares ≡ 1 → AreFirst (taken_from 0 shares)
first_class [] one = absurd (omega (arith, one))
first_class (share ∷ []) one = of_first share
first_class (share ∷ (other ∷ shares)) one = absurd (omega (arith, one))

-- a value that stands among values of the first class is of that class
pub class_first : (value : ℕ) (values : List Valued) → AreFirst values → IsSome (class_of value values) → class_of value values ≡ Some 0
class_first value [] first stands = absurd cc
class_first value (valued ∷ behind) first stands =
    ⊎_elim
    (λ (same : valued.value ≡ value).
    cond-true (eqb valued.value value) (Some valued.class) (class_of value behind) (eq-eqb valued.value value same) ∙ ap Some (first 0 valued (omega arith)))
    (λ (apart : valued.value ≡ value → ⊥).
    cond-false (eqb valued.value value) (Some valued.class) (class_of value behind) (ne_eqb valued.value value apart)
    ∙ class_first value behind (λ k d within. first (suc k) d (omega (arith, within))) (stands_behind value valued behind apart stands))
    (cases_eq valued.value value)

-- values of the first class, where each below a count stands once and they never fall, are those below the count
pub all_between : (count : ℕ) (values : List Valued) → AreFirst values → AreSharedOut count values → NeverFalls values → AreBetween count 0 values
all_between count values first shared rising =
    record {
      first = first;
      below = shared.below;
      above = λ k d within. omega arith;
      once = shared.once;
      rise = λ i j d before within. rising i j d before within (first i d (omega (arith, before, within)) ∙ sym (first j d within));
      each = λ value low high. shared.each value high;
    }
