-- SPDX-License-Identifier: MIT
-- Values that are gathered each once, while they are not too many.
use Rattle.std.proofs.Common.{◌≡◌, ℕ, zero, suc, ◌<◌, ◌≤◌, List, [], ◌∷◌, ◌++◌, Bool, true, false, cond, not, ◌||◌, length, take, refl, sym, ap, ◌∙◌, arith, length-append, append_assoc}
use Rattle.std.specs.Prelude.{filter}
use Rattle.std.specs.List.{list_any, flat_map, AllByRecursion}
use Rattle.std.specs.Cmp.{IsEquivalence, nat_eq_equiv, on_equiv}
use Rattle.std.specs.Cmp.Lexicographic.{lists_equiv}
use Rattle.std.proofs.lemmas.List.{take_all, take-append-le, append-nil}
use Rattle.std.proofs.lemmas.List.Elements.{filter-append}
use Rattle.std.proofs.lemmas.Grind.{flat_map-append}
use Rattle.rrc_name.specs.Wire.{folded, same_name}
use Rattle.rrc_sets.specs.Uniques.{uniques}
use Rattle.rrc_sets.specs.Gathering.{with_value}
use Rattle.rrc_sets.proofs.Growing.{uniques-push, AreUnlike, uniques-unlike}

-- the comparison of names is an equivalence
pub same_name-laws : IsEquivalence same_name
same_name-laws = on_equiv folded (lists_equiv nat_eq_equiv)

take-take : {A : Type 0} (most : ℕ) (xs : List A) → take most (take most xs) ≡ take most xs
take-take zero xs = refl
take-take (suc most) [] = refl
take-take (suc most) (x ∷ xs) = ap (λ zs. x ∷ zs) (take-take most xs)

all-take : {A : Type 0} (P : A → Type 0) (most : ℕ) (xs : List A) → AllByRecursion P xs → AllByRecursion P (take most xs)
all-take P zero xs all = tt
all-take P (suc most) [] all = tt
all-take P (suc most) (x ∷ xs) all = (all.0, all-take P most xs all.1)

module _ {A : Type 0} (same : A → A → Bool) where
  head : (x z : A) (most : ℕ) (any : Bool) (us : List A) → take (suc most) (cond any (x ∷ us) (x ∷ (us ++ z ∷ []))) ≡ x ∷ take most (cond any us (us ++ z ∷ []))
  head x z most true us = refl
  head x z most false us = refl

  -- of the first so many with one value more, and of all with it, the first so many are the same
  first-with : (z : A) (most : ℕ) (xs : List A) → take most (with_value same (take most xs) z) ≡ take most (with_value same xs z)
  first-with z zero xs = refl
  first-with z (suc most) [] = refl
  first-with z (suc most) (x ∷ xs) = by (same x z) (first-with z most xs)
    where
      any : List A → Bool
      any us = list_any (λ other. same other z) us

      by : (b : Bool) → take most (with_value same (take most xs) z) ≡ take most (with_value same xs z)
          → take (suc most) (cond (b || any (take most xs)) (x ∷ take most xs) (x ∷ (take most xs ++ z ∷ [])))
          ≡ take (suc most) (cond (b || any xs) (x ∷ xs) (x ∷ (xs ++ z ∷ [])))
      by true rest = ap (λ us. x ∷ us) (take-take most xs)
      by false rest = head x z most (any (take most xs)) (take most xs) ∙ (ap (λ us. x ∷ us) rest ∙ sym (head x z most (any xs) xs))

module _ {A : Type 0} (same : A → A → Bool) (laws : IsEquivalence same) where
  unlike-take : (most : ℕ) (xs : List A) → AreUnlike same laws xs → AreUnlike same laws (take most xs)
  unlike-take zero xs all = tt
  unlike-take (suc most) [] all = tt
  unlike-take (suc most) (x ∷ xs) all = (all-take (λ other. same x other ≡ false) most xs all.0, unlike-take most xs all.1)

  all-stay : (x : A) (xs : List A) → AllByRecursion (λ other. same x other ≡ false) xs → filter (λ other. not (same x other)) xs ≡ xs
  all-stay x [] all = refl
  all-stay x (y ∷ ys) all =
      let kept : List A = filter (λ other. not (same x other)) ys in
      ap (λ b. cond (not b) (y ∷ kept) kept) all.0 ∙ ap (λ us. y ∷ us) (all-stay x ys all.1)

  -- values that are unlike are their own uniques
  uniques-own : (xs : List A) → AreUnlike same laws xs → uniques same xs ≡ xs
  uniques-own [] all = refl
  uniques-own (x ∷ xs) all =
      ap (λ us. x ∷ filter (λ other. not (same x other)) us) (uniques-own xs all.1) ∙ ap (λ us. x ∷ us) (all-stay x xs all.0)

  module _ (most : ℕ) where
    -- the first values, each once
    firsts : List A → List A
    firsts xs = take most (uniques same xs)

    uniques-firsts : (xs : List A) → uniques same (take most (uniques same xs)) ≡ take most (uniques same xs)
    uniques-firsts xs = uniques-own (take most (uniques same xs)) (unlike-take most (uniques same xs) (uniques-unlike same laws xs))

    -- the first values of the first ones are these
    pub firsts-firsts : (xs : List A) → take most (uniques same (take most (uniques same xs))) ≡ take most (uniques same xs)
    firsts-firsts xs = ap (take most) (uniques-firsts xs) ∙ take-take most (uniques same xs)

    -- what was gathered and one value more
    push : (xs : List A) (z : A) → take most (uniques same (take most (uniques same xs) ++ z ∷ [])) ≡ take most (uniques same (xs ++ z ∷ []))
    push xs z =
        ap (take most) (uniques-push same laws (take most (uniques same xs)) z ∙ ap (λ us. with_value same us z) (uniques-firsts xs))
        ∙ (first-with same z most (uniques same xs) ∙ ap (take most) (sym (uniques-push same laws xs z)))

    -- what was gathered and more values
    pub gathered : (xs ys : List A) → take most (uniques same (take most (uniques same xs) ++ ys)) ≡ take most (uniques same (xs ++ ys))
    gathered xs [] =
        ap (λ us. take most (uniques same us)) (append-nil (take most (uniques same xs)))
        ∙ (firsts-firsts xs ∙ ap (λ us. take most (uniques same us)) (sym (append-nil xs)))
    gathered xs (y ∷ ys) =
        let now : List A = take most (uniques same xs) in
        ap (λ us. take most (uniques same us)) (sym (append_assoc now (y ∷ []) ys))
        ∙ (sym (gathered (now ++ y ∷ []) ys)
        ∙ (ap (λ us. take most (uniques same (us ++ ys))) (push xs y)
        ∙ (gathered (xs ++ y ∷ []) ys
        ∙ ap (λ us. take most (uniques same us)) (append_assoc xs (y ∷ []) ys))))

    -- what was gathered are the first values of themselves
    pub are-firsts : (before now : List A) → now ≡ take most (uniques same before) → now ≡ take most (uniques same now)
    are-firsts before now is = is ∙ (sym (firsts-firsts before) ∙ ap (λ us. take most (uniques same us)) (sym is))

    -- what was gathered, more values, and what they are together
    pub further : (before now ys later after : List A) → now ≡ take most (uniques same before) → later ≡ take most (uniques same (now ++ ys))
        → before ++ ys ≡ after → later ≡ take most (uniques same after)
    further before now ys later after is later-is joined =
        later-is
        ∙ (ap (λ us. take most (uniques same (us ++ ys))) is
        ∙ (gathered before ys ∙ ap (λ us. take most (uniques same us)) joined))

    module _ (now : List A) (z : A) (are : now ≡ take most (uniques same now)) where
      with-one : take most (uniques same (now ++ z ∷ [])) ≡ take most (with_value same now z)
      with-one =
          ap (take most) (uniques-push same laws now z
          ∙ ap (λ us. with_value same us z) (ap (uniques same) are ∙ (uniques-firsts now ∙ sym are)))

      own : take most now ≡ now
      own = ap (take most) are ∙ (take-take most (uniques same now) ∙ sym are)

      -- one more value, where there is room for it
      pub more : list_any (λ other. same other z) now ≡ false → length now < most → now ++ z ∷ [] ≡ take most (uniques same (now ++ z ∷ []))
      more new room =
          sym (take_all most (now ++ z ∷ []) (omega (arith, room, length-append now (z ∷ []))))
          ∙ (ap (λ b. take most (cond b now (now ++ z ∷ []))) (sym new) ∙ sym with-one)

      -- one that is there
      pub known : list_any (λ other. same other z) now ≡ true → now ≡ take most (uniques same (now ++ z ∷ []))
      known old = sym own ∙ (ap (λ b. take most (cond b now (now ++ z ∷ []))) (sym old) ∙ sym with-one)

      -- and where there is no room
      pub full : most ≤ length now → now ≡ take most (uniques same (now ++ z ∷ []))
      full long = sym own ∙ (by (list_any (λ other. same other z) now) ∙ sym with-one)
        where
          by : (b : Bool) → take most now ≡ take most (cond b now (now ++ z ∷ []))
          by true = refl
          by false = sym (take-append-le most now (z ∷ []) long)

-- ---- what the values that pass a test name

module _ {A B : Type 0} (f : A → List B) (test : A → Bool) (xs : List A) (x : A) where
  pub named-more : test x ≡ true → flat_map f (filter test xs) ++ f x ≡ flat_map f (filter test (xs ++ x ∷ []))
  named-more is =
      ap (λ ys. flat_map f (filter test xs) ++ ys) (sym (append-nil (f x)))
      ∙ (sym (flat_map-append f (filter test xs) (x ∷ []))
      ∙ (ap (λ b. flat_map f (filter test xs ++ cond b (x ∷ []) [])) (sym is)
      ∙ ap (flat_map f) (sym (filter-append test xs (x ∷ [])))))

  pub named-less : test x ≡ false → flat_map f (filter test xs) ≡ flat_map f (filter test (xs ++ x ∷ []))
  named-less is =
      ap (flat_map f) (sym (append-nil (filter test xs))
      ∙ (ap (λ b. filter test xs ++ cond b (x ∷ []) []) (sym is) ∙ sym (filter-append test xs (x ∷ []))))
