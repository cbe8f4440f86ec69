-- SPDX-License-Identifier: MIT
-- the table of the classes in which values stand, one value more at a time
use Rattle.std.proofs.Common.{◌≡◌, ◌≢◌, ℕ, ◌<◌, true, false, cond, eqb, List, [], ◌∷◌, ◌++◌, length, get_or, set, take, map, Option, Some, None, Result, Ok, Err, zero, suc, refl, sym, ◌∙◌, ap, subst, arith, ⊎_elim, IsTrue, ◌↔◌}
use Rattle.std.specs.Prelude.{slice_get, is_some, IsSome, IfOk, IfSome}
use Rattle.std.specs.Option.{MatchOption}
use Rattle.std.proofs.lemmas.Option.{slice_get-get_or}
use Rattle.std.proofs.lemmas.Bool.{false≢true, eqb-true, eq-eqb, ne_eqb, cases_eq, cases_Bool, cond-true, cond-false}
use Rattle.std.proofs.lemmas.List.{length-set, get_or-set_same, get_or-set_other, get_or-take, length-take-le, length-map}
use Rattle.std.proofs.lemmas.List.Elements.{All-nil, All-cons, All-push}
use Rattle.std.proofs.lemmas.List.Quantifiers.{all_pairs_push}
use Rattle.std.specs.List.{All, Contains}
use Rattle.rrc_collate.specs.declared.valued.Valued.{Valued}
use Rattle.rrc_collate.specs.Words.{class_of, AreApart, AreClasses, AreSharedOut, AreOwners}

class_kept : (value : ℕ) (values : List Valued) (next : Valued) → (next.value ≡ value → ⊥) → class_of value (values ++ next ∷ []) ≡ class_of value values
class_kept value [] next other = cond-false (eqb next.value value) (Some next.class) None (ne_eqb next.value value other)
class_kept value (first ∷ behind) next other = ap (λ o. cond (eqb first.value value) (Some first.class) o) (class_kept value behind next other)

some_no_none : {A : Type 0} (x : A) → Some x ≡ None → ⊥
some_no_none x e = false≢true (sym (ap is_some e))

-- a value that stands in no class stands behind no value that is the same
none_behind : (value : ℕ) (first : Valued) (behind : List Valued) → class_of value (first ∷ behind) ≡ None → (first.value ≡ value → ⊥) × (class_of value behind ≡ None)
none_behind value first behind none =
    let other : first.value ≡ value → ⊥ =
    λ same. some_no_none first.class (sym (cond-true (eqb first.value value) (Some first.class) (class_of value behind) (eq-eqb first.value value same)) ∙ none) in
    (other, sym (cond-false (eqb first.value value) (Some first.class) (class_of value behind) (ne_eqb first.value value other)) ∙ none)

class_new : (value : ℕ) (values : List Valued) (next : Valued) → class_of value values ≡ None → next.value ≡ value → class_of value (values ++ next ∷ []) ≡ Some next.class
class_new value [] next none same = cond-true (eqb next.value value) (Some next.class) None (eq-eqb next.value value same)
class_new value (first ∷ behind) next none same =
    let parts = none_behind value first behind none in
    cond-false (eqb first.value value) (Some first.class) (class_of value (behind ++ next ∷ [])) (ne_eqb first.value value parts.0) ∙ class_new value behind next parts.1 same

-- no value is the same as one that stands in no class
pub others_all : (value : ℕ) (values : List Valued) → class_of value values ≡ None → All (λ valued. valued.value ≢ value) values
others_all value [] none = All-nil (λ valued. valued.value ≢ value)
others_all value (first ∷ behind) none =
    let parts = none_behind value first behind none in
    All-cons (λ valued. valued.value ≢ value) first behind parts.0 (others_all value behind parts.1)

-- where a value stands that stands in a class
pub record StandsAt (value : ℕ) (values : List Valued) : Type 0 where
  pub place : ℕ
  pub within : place < length values
  pub same : (d : Valued) → (get_or values place d).value ≡ value

pub stands : (value : ℕ) (values : List Valued) → is_some (class_of value values) ≡ true → StandsAt value values
stands value [] some = absurd (false≢true some)
stands value (first ∷ behind) some =
    ⊎_elim
    (λ (same : eqb first.value value ≡ true). record { place = 0; within = omega arith; same = λ d. eqb-true first.value value same })
    (λ (other : eqb first.value value ≡ false).
    let rest = stands value behind (sym (ap is_some (cond-false (eqb first.value value) (Some first.class) (class_of value behind) other)) ∙ some) in
    record { place = suc rest.place; within = let w = rest.within in omega (arith, w); same = λ d. rest.same d })
    (cases_Bool (eqb first.value value))

abbrev Differ : Valued → Valued → Type 0
Differ earlier later = earlier.value ≢ later.value

-- one value more, which stood in no class
pub apart_more : (count : ℕ) (values : List Valued) (next : Valued) (classes : List (Option ℕ)) → AreApart count values → AreClasses count values classes
    → next.value < count → get_or classes next.value None ≡ None → AreApart count (values ++ next ∷ [])
apart_more count values next classes apart are below free =
    let none : class_of next.value values ≡ None = sym (are.each next.value below) ∙ free in
    record {
      below = All-push (λ valued. valued.value < count) values next apart.below below;
      once = all_pairs_push Differ values next apart.once (others_all next.value values none);
    }

pub classes_more : (count : ℕ) (values : List Valued) (next : Valued) (classes : List (Option ℕ)) → AreClasses count values classes
    → next.value < count → get_or classes next.value None ≡ None → AreClasses count (values ++ next ∷ []) (set classes next.value (Some next.class))
classes_more count values next classes are below free =
    let none : class_of next.value values ≡ None = sym (are.each next.value below) ∙ free in
    let within : next.value < length classes = let size = are.size in omega (arith, size, below) in
    record {
      size = length-set classes next.value (Some next.class) ∙ are.size;
      each = λ value here.
          ⊎_elim
          (λ (same : value ≡ next.value).
          ap (λ k. get_or (set classes next.value (Some next.class)) k None) same
          ∙ (get_or-set_same classes next.value (Some next.class) None within
          ∙ sym (class_new value values next (ap (λ k. class_of k values) same ∙ none) (sym same))))
          (λ (other : value ≡ next.value → ⊥).
          get_or-set_other classes next.value value (Some next.class) None other
          ∙ (are.each value here ∙ sym (class_kept value values next (λ same. other (sym same)))))
          (cases_eq value next.value);
    }

-- a value that stands in a class already stands twice
pub not_apart : (count : ℕ) (values : List Valued) (i : ℕ) (d : Valued) (classes : List (Option ℕ)) → i < length values → AreClasses count (take i values) classes
    → (get_or values i d).value < count → is_some (get_or classes (get_or values i d).value None) ≡ true → AreApart count values → ⊥
not_apart count values i d classes here are below some apart =
    let value = (get_or values i d).value in
    let found = stands value (take i values) (ap is_some (sym (are.each value below)) ∙ some) in
    let size = length-take-le i values (omega (arith, here)) in
    let within = found.within in
    let before : found.place < i = omega (arith, size, within) in
    apart.once found.place i d before here (sym (ap (λ (v : Valued). v.value) (get_or-take i values found.place d before)) ∙ found.same d)

got : (xs : List ℕ) (i : ℕ) → slice_get xs i ≡ get_or (map Some xs) i None
got [] i = refl
got (x ∷ xs) zero = refl
got (x ∷ xs) (suc i) = got xs i

owners_from : (count : ℕ) (taken : List Valued) (classes : List (Option ℕ)) (owners : List ℕ) → AreClasses count taken classes → map Some owners ≡ classes
    → AreOwners count taken owners
owners_from count taken classes owners are same = record {
  size = sym (length-map owners Some) ∙ (ap length same ∙ are.size);
  each = λ line here. got owners line ∙ (ap (λ (l : List (Option ℕ)). get_or l line None) same ∙ are.each line here);
}

shared_from : (count : ℕ) (taken : List Valued) (owners : List ℕ) → AreApart count taken → AreOwners count taken owners → AreSharedOut count taken
shared_from count taken owners apart are = record {
  below = apart.below;
  once = apart.once;
  each = λ line here.
      let within : line < length owners = let size = are.size in omega (arith, size, here) in
      subst (λ (o : Option ℕ). IsSome o) (sym (slice_get-get_or owners line 0 within) ∙ are.each line here) refl;
}

not_shared : (count : ℕ) (taken : List Valued) (classes : List (Option ℕ)) → AreClasses count taken classes → Contains classes None → AreSharedOut count taken → ⊥
not_shared count taken classes are none shared =
    let here : none.0 < count = let size = are.size in let within = none.1 in omega (arith, size, within) in
    false≢true (subst (λ (o : Option ℕ). IsSome o) (sym (are.each none.0 here) ∙ none.2) (shared.each none.0 here))

-- what `owners` answers, from what `all_of` answered
pub is_shared_out : {V E : Type 0} (items : V → List ℕ) (count : ℕ) (taken : List Valued) (classes : List (Option ℕ)) (result : Result (Option V) E)
    → AreApart count taken → AreClasses count taken classes
    → IfOk result (λ all. MatchOption all (Contains classes None) (λ values. map Some (items values) ≡ classes))
    → IfOk result (λ found. IsTrue (is_some found) ↔ AreSharedOut count taken)
is_shared_out items count taken classes (Err e) apart are all = tt
is_shared_out items count taken classes (Ok None) apart are all = (λ impossible. absurd (false≢true impossible), λ shared. absurd (not_shared count taken classes are all shared))
is_shared_out items count taken classes (Ok (Some values)) apart are all =
    (λ _. shared_from count taken (items values) apart (owners_from count taken classes (items values) are all), λ _. refl)

pub has_owners : {V E : Type 0} (items : V → List ℕ) (count : ℕ) (taken : List Valued) (classes : List (Option ℕ)) (result : Result (Option V) E)
    → AreClasses count taken classes
    → IfOk result (λ all. MatchOption all (Contains classes None) (λ values. map Some (items values) ≡ classes))
    → IfOk result (λ found. IfSome found (λ owners. AreOwners count taken (items owners)))
has_owners items count taken classes (Err e) are all = tt
has_owners items count taken classes (Ok None) are all = tt
has_owners items count taken classes (Ok (Some values)) are all = owners_from count taken classes (items values) are all

pub free : (o : Option ℕ) → is_some o ≡ false → o ≡ None
free None none = refl
free (Some x) none = absurd (false≢true (sym none))
