-- SPDX-License-Identifier: MIT
-- Every text spells one name, or it has one first fault, and never both.
use Rattle.std.proofs.Common.{◌≡◌, ◌≢◌, ◌⊎◌, ℕ, Bool, true, false, List, [], ◌∷◌, Result, Ok, Err, refl, sym, ap, subst, ◌∙◌, inl, inr}
use Rattle.std.specs.Prelude.{bytes_eq}
use Rattle.std.proofs.lemmas.Slice.Eq.{bytes_eq-Decides}
use Rattle.rrc_name.specs.declared.fault.NameFault.{NameFault}
use Rattle.rrc_name.specs.declared.text.Escape.TheVariants.{Unescaped}
use Rattle.rrc_name.specs.Reading.{name_from, name_in}
use Rattle.rrc_name.specs.Text.{Spells, root, IsFirstFaultOf, OneNameOrFault}
use Rattle.rrc_name.proofs.TextReading.{Tells, name_from-tells}
use Rattle.rrc_name.proofs.TextRuns.{name_in-other, name_in-spelled, name_in-fault}

-- what is read of a text is what it spells, or its first fault
pub name_in-tells : (text : List ℕ) → Tells text (name_in text)
name_in-tells text = by (bytes_eq text (46 ∷ [])) refl
  where
    by : (test : Bool) → bytes_eq text (46 ∷ []) ≡ test → Tells text (name_in text)
    by true is = let is_root : text ≡ 46 ∷ [] = (bytes_eq-Decides text (46 ∷ [])).0 is in subst (λ t. Tells t (name_in t)) (sym is_root) root
    by false is =
        let no_root : text ≢ 46 ∷ [] = λ e. no_test (sym is ∙ (bytes_eq-Decides text (46 ∷ [])).1 e) in
        subst (Tells text) (sym (name_in-other text no_root false is)) (name_from-tells text no_root)
      where
        no_test : false ≡ true → ⊥
        no_test e = cc

-- a test for the dot that is the root, and what is read where it fails
pub tested_root : (text dot name : List ℕ) → bytes_eq text dot ≡ true → dot ≡ 46 ∷ [] → name ≡ 0 ∷ [] → Spells text name
tested_root text dot name test is_dot is_root =
    subst (λ t. Spells t name) (sym ((bytes_eq-Decides text dot).0 test ∙ is_dot)) (subst (Spells (46 ∷ [])) (sym is_root) root)

pub tested_tells : (text dot : List ℕ) (r : Result (List ℕ) NameFault) → bytes_eq text dot ≡ false → dot ≡ 46 ∷ [] → name_from [] [] Unescaped text ≡ r → Tells text r
tested_tells text dot r test is_dot read =
    let same : name_in text ≡ r = name_in-other text (λ e. no_test (sym test ∙ (bytes_eq-Decides text dot).1 (e ∙ sym is_dot))) (bytes_eq text (46 ∷ [])) refl ∙ read in
    subst (Tells text) same (name_in-tells text)
  where
    no_test : false ≡ true → ⊥
    no_test e = cc

abbrev NameOrFault : List ℕ → Type 0
NameOrFault text = ((name : List ℕ) × Spells text name) ⊎ ((fault : NameFault) × IsFirstFaultOf text fault)

either_of : (text : List ℕ) (r : Result (List ℕ) NameFault) → Tells text r → NameOrFault text
either_of text (Ok name) is = inl (name, is)
either_of text (Err fault) is = inr (fault, is)

abbrev name_or : List ℕ → Result (List ℕ) NameFault → List ℕ
name_or name (Ok found) = found
name_or name (Err fault) = name

abbrev fault_or : NameFault → Result (List ℕ) NameFault → NameFault
fault_or fault (Ok name) = fault
fault_or fault (Err found) = found

pub name_or_fault : OneNameOrFault
name_or_fault text = record {
  either = either_of text (name_in text) (name_in-tells text);
  one_name = λ name other is also. ap (name_or name) (sym (name_in-spelled text name is) ∙ name_in-spelled text other also);
  one_fault = λ fault other is also. ap (fault_or fault) (sym (name_in-fault text fault is) ∙ name_in-fault text other also);
  not_both = λ name fault spells is. never (sym (name_in-spelled text name spells) ∙ name_in-fault text fault is);
}
  where
    never : {name : List ℕ} {fault : NameFault} → Ok name ≡ Err fault → ⊥
    never e = cc
