-- SPDX-License-Identifier: MIT
-- the tables of `have_others`
use Rattle.std.proofs.Common.{◌≡◌, ◌≢◌, ℕ, ◌<◌, true, cond, eqb, not, List, [], ◌∷◌, length, get_or, zero, suc, refl, sym, ◌∙◌, ap, arith, inl, inr, ◌⊎◌, ⊎_elim}
use Rattle.std.proofs.lemmas.Bool.{false≢true, cases_eq, eq-eqb, ne_eqb, cond-true, cond-false}
use Rattle.std.proofs.lemmas.List.{get_or_default}
use Rattle.rrc_collate.specs.declared.valued.Valued.{Valued}
use Rattle.rrc_collate.specs.declared.other_values.Seen.{Seen}
use Rattle.rrc_collate.specs.declared.other_values.Seen.TheVariants.{Nothing, One, Many}
use Rattle.rrc_collate.specs.OtherValues.{HasOther, after, has_other, seen_from, AreSeen}

-- what is seen with one value more has another than a value where it had one before, or where the new one is another
other_after : (seen : Seen) (value wanted : ℕ) → has_other (after seen value) wanted ≡ true → (has_other seen wanted ≡ true) ⊎ (value ≢ wanted)
other_after Nothing value wanted has = inr (λ same. false≢true (sym (ap not (eq-eqb value wanted same)) ∙ has))
other_after (One first) value wanted has =
    ⊎_elim
    (λ (is : first ≡ wanted).
    ⊎_elim
    (λ (same : first ≡ value).
    absurd (false≢true (sym (ap (λ b. has_other (cond b (One first) Many) wanted) (eq-eqb first value same) ∙ ap not (eq-eqb first wanted is)) ∙ has)))
    (λ (other : first ≡ value → ⊥). inr (λ e. other (is ∙ sym e)))
    (cases_eq first value))
    (λ (is_not : first ≡ wanted → ⊥). inl (ap not (ne_eqb first wanted is_not)))
    (cases_eq first wanted)
other_after Many value wanted has = inl refl

after_other : (seen : Seen) (value wanted : ℕ) → (has_other seen wanted ≡ true) ⊎ (value ≢ wanted) → has_other (after seen value) wanted ≡ true
after_other Nothing value wanted (inl has) = absurd (false≢true has)
after_other Nothing value wanted (inr other) = ap not (ne_eqb value wanted other)
after_other (One first) value wanted either =
    ⊎_elim
    (λ (same : first ≡ value).
    ap (λ b. has_other (cond b (One first) Many) wanted) (eq-eqb first value same)
    ∙ ⊎_elim (λ (has : not (eqb first wanted) ≡ true). has) (λ (other : value ≡ wanted → ⊥). ap not (ne_eqb first wanted (λ e. other (sym same ∙ e)))) either)
    (λ (apart : first ≡ value → ⊥). ap (λ b. has_other (cond b (One first) Many) wanted) (ne_eqb first value apart))
    (cases_eq first value)
after_other Many value wanted either = refl

-- another value of the class stands among some
pub record Stands (class wanted : ℕ) (values : List Valued) : Type 0 where
  pub place : ℕ
  pub within : place < length values
  pub same_class : (d : Valued) → (get_or values place d).class ≡ class
  pub other : (d : Valued) → (get_or values place d).value ≢ wanted

stands_behind : (class wanted : ℕ) (first : Valued) (behind : List Valued) → Stands class wanted behind → Stands class wanted (first ∷ behind)
stands_behind class wanted first behind stands = record {
  place = suc stands.place;
  within = let within = stands.within in omega (arith, within);
  same_class = λ d. stands.same_class d;
  other = λ d. stands.other d;
}

pub seen_other : (seen : Seen) (class wanted : ℕ) (values : List Valued) → has_other (seen_from seen class values) wanted ≡ true → (has_other seen wanted ≡ true) ⊎ Stands class wanted values
seen_other seen class wanted [] has = inl has
seen_other seen class wanted (first ∷ behind) has =
    ⊎_elim
    (λ (same : first.class ≡ class).
    let own = cond-true (eqb first.class class) (after seen first.value) seen (eq-eqb first.class class same) in
    ⊎_elim
    (λ (before : has_other (after seen first.value) wanted ≡ true).
    ⊎_elim
    (λ (had : has_other seen wanted ≡ true). inl had)
    (λ (other : first.value ≢ wanted). inr (record { place = 0; within = omega arith; same_class = λ d. same; other = λ d. other }))
    (other_after seen first.value wanted before))
    (λ (stands : Stands class wanted behind). inr (stands_behind class wanted first behind stands))
    (seen_other (after seen first.value) class wanted behind (ap (λ s. has_other (seen_from s class behind) wanted) (sym own) ∙ has)))
    (λ (apart : first.class ≡ class → ⊥).
    let own = cond-false (eqb first.class class) (after seen first.value) seen (ne_eqb first.class class apart) in
    ⊎_elim
    (λ (had : has_other seen wanted ≡ true). inl had)
    (λ (stands : Stands class wanted behind). inr (stands_behind class wanted first behind stands))
    (seen_other seen class wanted behind (ap (λ s. has_other (seen_from s class behind) wanted) (sym own) ∙ has)))
    (cases_eq first.class class)

stands_first : (class wanted : ℕ) (first : Valued) (behind : List Valued) (place : ℕ) → place < length (first ∷ behind) → ((d : Valued) → (get_or (first ∷ behind) place d).class ≡ class)
    → ((d : Valued) → (get_or (first ∷ behind) place d).value ≢ wanted) → ((first.class ≡ class) × (first.value ≢ wanted)) ⊎ Stands class wanted behind
stands_first class wanted first behind zero within same_class other = inl (same_class first, other first)
stands_first class wanted first behind (suc place) within same_class other =
    inr (record { place = place; within = omega (arith, within); same_class = λ d. same_class d; other = λ d. other d })

pub other_seen : (seen : Seen) (class wanted : ℕ) (values : List Valued) → (has_other seen wanted ≡ true) ⊎ Stands class wanted values → has_other (seen_from seen class values) wanted ≡ true
other_seen seen class wanted [] (inl had) = had
other_seen seen class wanted [] (inr stands) = absurd (let within = stands.within in omega (arith, within))
other_seen seen class wanted (first ∷ behind) either =
    ⊎_elim
    (λ (same : first.class ≡ class).
    let own = cond-true (eqb first.class class) (after seen first.value) seen (eq-eqb first.class class same) in
    ap (λ s. has_other (seen_from s class behind) wanted) own
    ∙ other_seen (after seen first.value) class wanted behind
    (⊎_elim
    (λ (had : has_other seen wanted ≡ true). inl (after_other seen first.value wanted (inl had)))
    (λ (stands : Stands class wanted (first ∷ behind)).
    ⊎_elim
    (λ (here : (first.class ≡ class) × (first.value ≢ wanted)). inl (after_other seen first.value wanted (inr here.1)))
    (λ (rest : Stands class wanted behind). inr rest)
    (stands_first class wanted first behind stands.place stands.within stands.same_class stands.other))
    either))
    (λ (apart : first.class ≡ class → ⊥).
    let own = cond-false (eqb first.class class) (after seen first.value) seen (ne_eqb first.class class apart) in
    ap (λ s. has_other (seen_from s class behind) wanted) own
    ∙ other_seen seen class wanted behind
    (⊎_elim
    (λ (had : has_other seen wanted ≡ true). inl had)
    (λ (stands : Stands class wanted (first ∷ behind)).
    ⊎_elim
    (λ (here : (first.class ≡ class) × (first.value ≢ wanted)). absurd (apart here.0))
    (λ (rest : Stands class wanted behind). inr rest)
    (stands_first class wanted first behind stands.place stands.within stands.same_class stands.other))
    either))
    (cases_eq first.class class)

-- the table says whether a class has another value
pub table_tells : (classes : ℕ) (present : List Valued) (seen : List Seen) (wanted : Valued) → AreSeen classes present seen → wanted.class < classes
    → has_other (get_or seen wanted.class Nothing) wanted.value ≡ true → HasOther present wanted
table_tells classes present seen wanted are below has =
    ⊎_elim
    (λ (had : has_other Nothing wanted.value ≡ true). absurd (false≢true had))
    (λ (stands : Stands wanted.class wanted.value present).
    let other = get_or present stands.place wanted in
    record {
      other = other;
      stands = (stands.place, stands.within, get_or_default present stands.place other wanted stands.within);
      same_class = stands.same_class wanted;
      other_value = stands.other wanted;
    })
    (seen_other Nothing wanted.class wanted.value present (ap (λ s. has_other s wanted.value) (sym (are.each wanted.class below)) ∙ has))

pub told_by_table : (classes : ℕ) (present : List Valued) (seen : List Seen) (wanted : Valued) → AreSeen classes present seen → wanted.class < classes
    → HasOther present wanted → has_other (get_or seen wanted.class Nothing) wanted.value ≡ true
told_by_table classes present seen wanted are below other =
    let found : (d : Valued) → get_or present other.stands.0 d ≡ other.other =
    λ d. get_or_default present other.stands.0 d other.other other.stands.1 ∙ other.stands.2 in
    ap (λ s. has_other s wanted.value) (are.each wanted.class below)
    ∙ other_seen Nothing wanted.class wanted.value present (inr (record {
      place = other.stands.0;
      within = other.stands.1;
      same_class = λ d. ap (λ (v : Valued). v.class) (found d) ∙ other.same_class;
      other = λ d same. other.other_value (sym (ap (λ (v : Valued). v.value) (found d)) ∙ same);
    }))
