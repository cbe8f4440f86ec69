-- SPDX-License-Identifier: MIT
-- The fields of octets, found one after another, are those of the grammar.
use Rattle.std.proofs.Common.{◌≡◌, ◌≢◌, ◌==◌, ℕ, suc, List, [], ◌∷◌, ◌++◌, length, Option, Some, None, Bool, true, false, not, cond, option_map, is_some, refl, sym, ap, subst, ◌∙◌, arith, inl, inr, eqb-true, eq-eqb}
use Rattle.std.proofs.lemmas.Bool.{eqb-false}
use Rattle.std.specs.List.{AllByRecursion}
use Rattle.rrc_text.specs.Fields.{field_in_front, first_unspaced, field_at, has_field, said_at}
use Rattle.rrc_trace.specs.Lines.{ended}
use Rattle.rrc_text.specs.Grammar.{AreSpaces, IsField, StandsApart}
use Rattle.rrc_trace.specs.Grammar.{HasFields, no_field, field_more}
use Rattle.rrc_text.proofs.SaidLemmas.{said_first, said_last}
use Rattle.rrc_text.proofs.FieldLemmas.{front-space, front-more, field_at-here, field_at-space, unspaced-cons, field_at-of}

-- octets are a run with no space, and what stands apart behind it
record IsCutApart (octets field behind : List ℕ) : Type 0 where
  unspaced : AllByRecursion (λ octet. octet ≢ 32) field
  apart : StandsApart behind
  whole : octets ≡ field ++ behind

front-cut : (octets : List ℕ) → IsCutApart octets (field_in_front octets).0 (field_in_front octets).1
front-cut [] = record { unspaced = tt; apart = inl refl; whole = refl }
front-cut (octet ∷ octets) = by (octet == 32) refl (front-cut octets)
  where
    by : (space : Bool) → (octet == 32) ≡ space → IsCutApart octets (field_in_front octets).0 (field_in_front octets).1
        → IsCutApart (octet ∷ octets) (field_in_front (octet ∷ octets)).0 (field_in_front (octet ∷ octets)).1
    by true is rest =
        let e : octet ≡ 32 = eqb-true octet 32 is in
        subst (λ (cut : List ℕ × List ℕ). IsCutApart (octet ∷ octets) cut.0 cut.1) (sym (front-space octet octets is))
        (record { unspaced = tt; apart = inr (octets, ap (λ (o : ℕ). o ∷ octets) e); whole = refl })
    by false other rest =
        subst (λ (cut : List ℕ × List ℕ). IsCutApart (octet ∷ octets) cut.0 cut.1) (sym (front-more octet octets other))
        (record { unspaced = (λ e. eqb-false octet 32 other e, rest.unspaced); apart = rest.apart; whole = ap (λ (o : List ℕ). octet ∷ o) rest.whole })

-- the first field of octets, and what stands round it
record IsFound (octets field behind : List ℕ) : Type 0 where
  spaces : List ℕ
  are_spaces : AreSpaces spaces
  is_field : IsField field
  apart : StandsApart behind
  whole : octets ≡ spaces ++ (field ++ behind)

field_at-found : (octets field behind : List ℕ) → field_at octets ≡ Some (field, behind) → IsFound octets field behind
field_at-found [] field behind is = absurd cc
field_at-found (octet ∷ octets) field behind is = by (octet == 32) refl (field_at-found octets field behind)
  where
    by : (space : Bool) → (octet == 32) ≡ space → (field_at octets ≡ Some (field, behind) → IsFound octets field behind) → IsFound (octet ∷ octets) field behind
    by true space later =
        let rest : IsFound octets field behind = later (sym (field_at-space octet octets space) ∙ is) in
        record {
          spaces = octet ∷ rest.spaces;
          are_spaces = (eqb-true octet 32 space, rest.are_spaces);
          is_field = rest.is_field;
          apart = rest.apart;
          whole = ap (λ (o : List ℕ). octet ∷ o) rest.whole;
        }
    by false other later =
        let same : field_in_front (octet ∷ octets) ≡ (field, behind) = said_last (sym (field_at-here octet octets other) ∙ is) in
        let cut : IsCutApart (octet ∷ octets) field behind =
        subst (λ (cut : List ℕ × List ℕ). IsCutApart (octet ∷ octets) cut.0 cut.1) same (front-cut (octet ∷ octets)) in
        let begins : octet ∷ (field_in_front octets).0 ≡ field = ap (λ (cut : List ℕ × List ℕ). cut.0) (sym (front-more octet octets other) ∙ same) in
        record {
          spaces = [];
          are_spaces = tt;
          is_field = record { some = omega (arith, ap length begins); unspaced = cut.unspaced };
          apart = cut.apart;
          whole = cut.whole;
        }

is_some-suc : (place : Option ℕ) → is_some (option_map suc place) ≡ is_some place
is_some-suc None = refl
is_some-suc (Some place) = refl

pub has_field-space : (octet : ℕ) (octets : List ℕ) → (octet == 32) ≡ true → has_field (octet ∷ octets) ≡ has_field octets
has_field-space octet octets is =
    ap is_some (unspaced-cons octet octets ∙ ap (λ space. cond (not space) (Some 0) (option_map suc (first_unspaced octets))) is)
    ∙ is_some-suc (first_unspaced octets)

pub has_field-here : (octet : ℕ) (octets : List ℕ) → (octet == 32) ≡ false → has_field (octet ∷ octets) ≡ true
has_field-here octet octets other =
    ap is_some (unspaced-cons octet octets ∙ ap (λ space. cond (not space) (Some 0) (option_map suc (first_unspaced octets))) other)

spaces-only : (octets : List ℕ) → has_field octets ≡ false → AreSpaces octets
spaces-only [] none = tt
spaces-only (octet ∷ octets) none = by (octet == 32) refl (spaces-only octets)
  where
    by : (space : Bool) → (octet == 32) ≡ space → (has_field octets ≡ false → AreSpaces octets) → AreSpaces (octet ∷ octets)
    by true is later = (eqb-true octet 32 is, later (sym (has_field-space octet octets is) ∙ none))
    by false other later = let never : true ≡ false = sym (has_field-here octet octets other) ∙ none in absurd cc

pub no_field-in : (spaces : List ℕ) → AreSpaces spaces → has_field spaces ≡ false
no_field-in [] are = refl
no_field-in (octet ∷ spaces) are = has_field-space octet spaces (eq-eqb octet 32 are.0) ∙ no_field-in spaces are.1

-- the first field says a value, and others may stand behind it
pub record SaysFirst {X : Type 0} (said : List ℕ → Option X) (octets : List ℕ) (value : X) (behind : List ℕ) : Type 0 where
  pub field : List ℕ
  pub says : said field ≡ Some value
  pub before : (fields : List (List ℕ)) → HasFields behind fields → HasFields octets (field ∷ fields)

pub says_first : {X : Type 0} (said : List ℕ → Option X) (octets : List ℕ) (value : X) (behind : List ℕ) → said_at said octets ≡ Some (value, behind)
    → SaysFirst said octets value behind
says_first {X} said octets value behind is =
    let field = said_first (field_at octets) _ (value, behind) is in
    let found = said_first (said field.0.0) _ (value, behind) field.1.1 in
    let same : (found.0, field.0.1) ≡ (value, behind) = said_last found.1.1 in
    let at : field_at octets ≡ Some (field.0.0, behind) = field.1.0 ∙ ap Some (ap (λ (pair : X × List ℕ). (field.0.0, pair.1)) same) in
    let stands : IsFound octets field.0.0 behind = field_at-found octets field.0.0 behind at in
    record {
      field = field.0.0;
      says = found.1.0 ∙ ap Some (ap (λ (pair : X × List ℕ). pair.0) same);
      before = λ fields others. subst (λ (o : List ℕ). HasFields o (field.0.0 ∷ fields)) (sym stands.whole)
          (field_more stands.spaces stands.are_spaces stands.is_field stands.apart others);
    }

-- octets whose first field says a value are read so
pub record IsSaidAt {X : Type 0} (said : List ℕ → Option X) (octets : List ℕ) (fields : List (List ℕ)) (value : X) : Type 0 where
  pub behind : List ℕ
  pub others : HasFields behind fields
  pub said_here : said_at said octets ≡ Some (value, behind)

pub first_said : {X : Type 0} (said : List ℕ → Option X) (octets field : List ℕ) (fields : List (List ℕ)) (value : X) → HasFields octets (field ∷ fields)
    → said field ≡ Some value → IsSaidAt said octets fields value
first_said said octets field fields value (field_more spaces {behind = behind} are is_field apart others) says =
    record { behind = behind; others = others; said_here = rw (field_at-of spaces field behind are is_field apart, says) refl }

-- behind the last field
pub last_said : {X : Type 0} (octets : List ℕ) (value : X) → HasFields octets [] → ended octets value ≡ Some value
last_said octets value (no_field are) = rw (no_field-in octets are) refl

pub record SaysLast {X : Type 0} (octets : List ℕ) (said value : X) : Type 0 where
  pub none : HasFields octets []
  pub same : said ≡ value

pub says_last : {X : Type 0} (octets : List ℕ) (said value : X) → ended octets said ≡ Some value → SaysLast octets said value
says_last octets said value is = by (has_field octets) refl
  where
    by : (more : Bool) → has_field octets ≡ more → SaysLast octets said value
    by true more = let never : None ≡ Some value = rw more at is in absurd cc
    by false more =
        let same : Some said ≡ Some value = rw more at is in
        record { none = no_field (spaces-only octets more); same = said_last same }
