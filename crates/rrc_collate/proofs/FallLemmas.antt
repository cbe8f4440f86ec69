-- SPDX-License-Identifier: MIT
-- the loop of `never_falls` over a table of the last value of each class
use Rattle.std.proofs.Common.{◌≡◌, ℕ, ◌+◌, ◌<◌, ◌≤◌, Bool, true, false, cond, ltb, List, [], ◌∷◌, length, get_or, set, replicate, drop, IsTrue, ◌↔◌, refl, sym, ◌∙◌, ap, arith, ⊎_elim}
use Rattle.std.proofs.lemmas.Bool.{lt-ltb, ltb-true, ltb-false, false≢true, cases_eq, cases_Bool}
use Rattle.std.proofs.lemmas.Bool.Decides.{Decides-like, Decides-at}
use Rattle.std.proofs.lemmas.List.{length-set, get_or-set_same, get_or-set_other, get_or-replicate, length-replicate, at_drop_more, at_drop_all}
use Rattle.std.proofs.lemmas.List.Elements.{All-nil, All-cons, All-head, All-tail, All-weaker}
use Rattle.std.specs.Bool.{Decides}
use Rattle.std.specs.List.{All}
use Rattle.rrc_collate.specs.declared.valued.Valued.{Valued}
use Rattle.rrc_collate.specs.Words.{NeverFalls}
use Rattle.rrc_collate.proofs.Pairs.{pairs_nil, pairs_head, pairs_tail, pairs_cons}

-- what the loop answers from a table on
abbrev pub rises : List ℕ → List Valued → Bool
rises lasts [] = true
rises lasts (next ∷ behind) = cond (ltb next.value (get_or lasts next.class 0)) false (rises (set lasts next.class next.value) behind)

abbrev pub IsAbove : List ℕ → Valued → Type 0
IsAbove lasts valued = get_or lasts valued.class 0 ≤ valued.value

abbrev pub HasPlace : List ℕ → Valued → Type 0
HasPlace lasts valued = valued.class < length lasts

abbrev pub IsNoHigher : Valued → Valued → Type 0
IsNoHigher earlier later = earlier.class ≡ later.class → earlier.value ≤ later.value

-- not lower than the last of its class after a step: not lower than that before, nor than the value of the step
raised : (lasts : List ℕ) (first later : Valued) → first.class < length lasts → IsAbove lasts first → IsAbove (set lasts first.class first.value) later
    → IsAbove lasts later × IsNoHigher first later
raised lasts first later within above afterwards =
    ⊎_elim
    (λ (same : later.class ≡ first.class).
    let here : get_or (set lasts first.class first.value) later.class 0 ≡ first.value =
    ap (λ k. get_or (set lasts first.class first.value) k 0) same ∙ get_or-set_same lasts first.class first.value 0 within in
    let before : get_or lasts later.class 0 ≡ get_or lasts first.class 0 = ap (λ k. get_or lasts k 0) same in
    (omega (arith, here, before, above, afterwards), λ _. omega (arith, here, afterwards)))
    (λ (other : later.class ≡ first.class → ⊥).
    let kept = get_or-set_other lasts first.class later.class first.value 0 other in
    (omega (arith, kept, afterwards), λ same. absurd (other (sym same))))
    (cases_eq later.class first.class)

lowered : (lasts : List ℕ) (first later : Valued) → first.class < length lasts → IsAbove lasts later → IsNoHigher first later
    → IsAbove (set lasts first.class first.value) later
lowered lasts first later within above no_higher =
    ⊎_elim
    (λ (same : later.class ≡ first.class).
    let here : get_or (set lasts first.class first.value) later.class 0 ≡ first.value =
    ap (λ k. get_or (set lasts first.class first.value) k 0) same ∙ get_or-set_same lasts first.class first.value 0 within in
    let higher = no_higher (sym same) in omega (arith, here, higher))
    (λ (other : later.class ≡ first.class → ⊥).
    let kept = get_or-set_other lasts first.class later.class first.value 0 other in omega (arith, kept, above))
    (cases_eq later.class first.class)

to_whole : (lasts : List ℕ) (first : Valued) (behind : List Valued) → first.class < length lasts → IsAbove lasts first
    → All (IsAbove (set lasts first.class first.value)) behind × NeverFalls behind → All (IsAbove lasts) (first ∷ behind) × NeverFalls (first ∷ behind)
to_whole lasts first behind within above h = (
  All-cons (IsAbove lasts) first behind above
      (All-weaker (IsAbove (set lasts first.class first.value)) (IsAbove lasts) (λ later then'. (raised lasts first later within above then').0) behind h.0),
  pairs_cons IsNoHigher first behind
      (All-weaker (IsAbove (set lasts first.class first.value)) (IsNoHigher first) (λ later then'. (raised lasts first later within above then').1) behind h.0) h.1,
)

to_rest : (lasts : List ℕ) (first : Valued) (behind : List Valued) → first.class < length lasts
    → All (IsAbove lasts) (first ∷ behind) × NeverFalls (first ∷ behind) → All (IsAbove (set lasts first.class first.value)) behind × NeverFalls behind
to_rest lasts first behind within h =
    let above = All-tail (IsAbove lasts) first behind h.0 in
    let higher = pairs_head IsNoHigher first behind h.1 in
    (λ k d here. lowered lasts first (get_or behind k d) within (above k d here) (higher k d here), pairs_tail IsNoHigher first behind h.1)

pub Decides-rises : (lasts : List ℕ) (values : List Valued) → All (HasPlace lasts) values
    → Decides (rises lasts values) (All (IsAbove lasts) values × NeverFalls values)
Decides-rises lasts [] places = (λ _. (All-nil (IsAbove lasts), pairs_nil IsNoHigher), λ _. refl)
Decides-rises lasts (first ∷ behind) places =
    let test = ltb first.value (get_or lasts first.class 0) in
    let within = All-head (HasPlace lasts) first behind places in
    let set' = set lasts first.class first.value in
    ⊎_elim
    (λ (lower : test ≡ true).
    let answer : rises lasts (first ∷ behind) ≡ false = ap (λ b. cond b false (rises set' behind)) lower in (
      λ holds. absurd (false≢true (sym answer ∙ holds)),
      λ h. absurd (let above = All-head (IsAbove lasts) first behind h.0 in let below = ltb-true first.value (get_or lasts first.class 0) lower in omega (arith, above, below)),
    ))
    (λ (not_lower : test ≡ false).
    let answer : rises lasts (first ∷ behind) ≡ rises set' behind = ap (λ b. cond b false (rises set' behind)) not_lower in
    let above = ltb-false first.value (get_or lasts first.class 0) not_lower in
    let size = length-set lasts first.class first.value in
    let there : All (HasPlace set') behind = λ k d here. rw size (All-tail (HasPlace lasts) first behind places k d here) in
    Decides-at (rises lasts (first ∷ behind)) (rises set' behind) answer
    (Decides-like (rises set' behind) (to_whole lasts first behind within above) (to_rest lasts first behind within) (Decides-rises set' behind there)))
    (cases_Bool test)

-- no value is below 0
pub Decides-from_start : (classes : ℕ) (values : List Valued) → All (λ valued. valued.class < classes) values → Decides (rises (replicate classes 0) values) (NeverFalls values)
Decides-from_start classes values places =
    let start : List ℕ = replicate classes 0 in
    let size : length start ≡ classes = length-replicate {A = ℕ} classes 0 in
    Decides-like (rises start values) (λ h. h.1)
    (λ falls. (
      λ k d here. let none : get_or start (get_or values k d).class 0 ≡ 0 = get_or-replicate {A = ℕ} classes (get_or values k d).class 0 0 (places k d here) in omega (arith, none),
      falls,
    ))
    (Decides-rises start values (λ k d here. let place = places k d here in omega (arith, size, place)))

-- the value at a place is lower than the last of its class
pub falls_at : (classes : ℕ) (lasts : List ℕ) (values : List Valued) (i : ℕ) (d : Valued) → All (λ valued. valued.class < classes) values → i < length values
    → rises lasts (drop i values) ≡ rises (replicate classes 0) values → (get_or values i d).value < get_or lasts (get_or values i d).class 0
    → IsTrue false ↔ NeverFalls values
falls_at classes lasts values i d places within same lower =
    let next = get_or values i d in
    let lower' = lt-ltb next.value (get_or lasts next.class 0) lower in
    let here : rises lasts (drop i values) ≡ false =
    at_drop_more (rises lasts) values i d within ∙ ap (λ b. cond b false (rises (set lasts next.class next.value) (drop (i + 1) values))) lower' in
    let decides = Decides-from_start classes values places in
    (λ impossible. absurd (false≢true impossible), λ falls. sym here ∙ (same ∙ decides.1 falls))

-- no value was lower
pub rises_all : (classes : ℕ) (lasts : List ℕ) (values : List Valued) (i : ℕ) → All (λ valued. valued.class < classes) values → length values ≤ i
    → rises lasts (drop i values) ≡ rises (replicate classes 0) values → IsTrue true ↔ NeverFalls values
rises_all classes lasts values i places behind same =
    let here : true ≡ rises lasts (drop i values) = sym (at_drop_all (rises lasts) values i behind) in
    ((λ _. (Decides-from_start classes values places).0 (sym (here ∙ same))), λ _. refl)
