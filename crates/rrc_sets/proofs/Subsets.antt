-- SPDX-License-Identifier: MIT
-- Lists of which some is left out.
use Rattle.std.proofs.Common.{◌≡◌, Bool, true, false, cond, not, List, [], ◌∷◌, ◌++◌, inl, inr, refl, sym, ap, subst}
use Rattle.std.specs.Prelude.{filter}
use Rattle.std.specs.List.{All, AllByRecursion}
use Rattle.std.proofs.lemmas.List.Elements.{All-from_recursion, recursion_from_All}
use Rattle.rrc_sets.specs.Uniques.{uniques, AreSomeOf}

pub none : {A : Type 0} (values : List A) → AreSomeOf [] values
none [] = refl
none (value ∷ values) = inl (none values)

pub whole : {A : Type 0} (values : List A) → AreSomeOf values values
whole [] = refl
whole (value ∷ values) = inr (values, refl, whole values)

pub of_same : {A : Type 0} (some values : List A) → some ≡ values → AreSomeOf some values
of_same some values same = subst (λ xs. AreSomeOf xs values) (sym same) (whole values)

pub of_filter : {A : Type 0} (test : A → Bool) (values : List A) → AreSomeOf (filter test values) values
of_filter test [] = refl
of_filter test (value ∷ values) =
    let rest : AreSomeOf (filter test values) values = of_filter test values in
    elim (test value) as (λ b. AreSomeOf (cond b (value ∷ filter test values) (filter test values)) (value ∷ values)) [
      | true ↦ inr (filter test values, refl, rest)
      | false ↦ inl rest
    ]

pub of_some : {A : Type 0} (few some values : List A) → AreSomeOf few some → AreSomeOf some values → AreSomeOf few values
of_some few some [] are is_none = subst (λ xs. AreSomeOf few xs) is_none are
of_some few some (value ∷ values) are (inl left) = inl (of_some few some values are left)
of_some {A} few some (value ∷ values) are (inr taken) =
    by (λ less held. of_some less taken.0 values held taken.2) (subst (λ xs. AreSomeOf few xs) taken.1 are)
  where
    by : ((less : List A) → AreSomeOf less taken.0 → AreSomeOf less values) → AreSomeOf few (value ∷ taken.0) → AreSomeOf few (value ∷ values)
    by further (inl left) = inl (further few left)
    by further (inr own) = inr (own.0, own.1, further own.0 own.2)

pub of_uniques : {A : Type 0} (same : A → A → Bool) (values : List A) → AreSomeOf (uniques same values) values
of_uniques same [] = refl
of_uniques same (value ∷ values) =
    let others = uniques same values in
    let unlike = filter (λ other. not (same value other)) others in
    inr (unlike, refl, of_some unlike others values (of_filter (λ other. not (same value other)) others) (of_uniques same values))

pub of_append : {A : Type 0} (some values more others : List A) → AreSomeOf some values → AreSomeOf more others → AreSomeOf (some ++ more) (values ++ others)
of_append some [] more others are_none are = subst (λ xs. AreSomeOf (xs ++ more) others) (sym are_none) are
of_append some (value ∷ values) more others (inl left) are = inl (of_append some values more others left are)
of_append some (value ∷ values) more others (inr taken) are =
    inr (taken.0 ++ more, ap (λ xs. xs ++ more) taken.1, of_append taken.0 values more others taken.2 are)

-- ---- what is true of all is true of some

each : {A : Type 0} (P : A → Type 0) (some values : List A) → AreSomeOf some values → AllByRecursion P values → AllByRecursion P some
each P some [] are_none all = subst (AllByRecursion P) (sym are_none) tt
each P some (value ∷ values) (inl left) all = each P some values left all.1
each P some (value ∷ values) (inr taken) all = subst (AllByRecursion P) (sym taken.1) (all.0, each P taken.0 values taken.2 all.1)

pub All-some : {A : Type 0} (P : A → Type 0) (some values : List A) → AreSomeOf some values → All P values → All P some
All-some P some values are all = All-from_recursion P some (each P some values are (recursion_from_All P values all))

pub All-filter_same : {A : Type 0} (P : A → Type 0) (test : A → Bool) (some values : List A) → some ≡ filter test values → All P values → All P some
All-filter_same P test some values is all =
    All-some P some values (subst (λ xs. AreSomeOf xs values) (sym is) (of_filter test values)) all

pub All-uniques_same : {A : Type 0} (P : A → Type 0) (same : A → A → Bool) (some values : List A) → some ≡ uniques same values → All P values → All P some
All-uniques_same P same some values is all =
    All-some P some values (subst (λ xs. AreSomeOf xs values) (sym is) (of_uniques same values)) all
