-- SPDX-License-Identifier: MIT
-- The first field of octets is found behind the spaces before it.
use Rattle.std.proofs.Common.{◌≡◌, ◌≢◌, ◌==◌, ℕ, suc, List, [], ◌∷◌, ◌++◌, take, drop, Option, Some, None, Bool, true, false, not, cond, position, option_map, refl, sym, ap, subst, ◌∙◌, arith, inl, inr, ne_eqb, eq-eqb}
use Rattle.std.specs.List.{AllByRecursion}
use Rattle.rrc_text.specs.Fields.{field_in_front, first_unspaced, field_at}
use Rattle.rrc_text.specs.Grammar.{AreSpaces, IsField, StandsApart}
use Rattle.rrc_text.proofs.SearchLemmas.{position-cons}

abbrev is_space : ℕ → Bool
is_space octet = octet == 32

abbrev is_unspaced : ℕ → Bool
is_unspaced octet = not (octet == 32)

-- octets cut at a place, or not at all
abbrev cut_at : List ℕ → Option ℕ → List ℕ × List ℕ
cut_at octets None = (octets, [])
cut_at octets (Some end) = (take end octets, drop end octets)

pub front-space : (octet : ℕ) (octets : List ℕ) → (octet == 32) ≡ true → field_in_front (octet ∷ octets) ≡ ([], octet ∷ octets)
front-space octet octets is =
    ap (cut_at (octet ∷ octets)) (position-cons is_space octet octets ∙ ap (λ space. cond space (Some 0) (option_map suc (position is_space octets))) is)

pub front-more : (octet : ℕ) (octets : List ℕ) → (octet == 32) ≡ false
    → field_in_front (octet ∷ octets) ≡ (octet ∷ (field_in_front octets).0, (field_in_front octets).1)
front-more octet octets other =
    ap (cut_at (octet ∷ octets)) (position-cons is_space octet octets ∙ ap (λ space. cond space (Some 0) (option_map suc (position is_space octets))) other)
    ∙ by (position is_space octets)
  where
    by : (place : Option ℕ) → cut_at (octet ∷ octets) (option_map suc place) ≡ (octet ∷ (cut_at octets place).0, (cut_at octets place).1)
    by None = refl
    by (Some place) = refl

pub front-of : (field behind : List ℕ) → AllByRecursion (λ octet. octet ≢ 32) field → StandsApart behind → field_in_front (field ++ behind) ≡ (field, behind)
front-of [] behind unspaced (inl none) = subst (λ (o : List ℕ). field_in_front o ≡ ([], o)) (sym none) refl
front-of [] behind unspaced (inr more) = subst (λ (o : List ℕ). field_in_front o ≡ ([], o)) (sym more.1) (front-space 32 more.0 refl)
front-of (octet ∷ field) behind unspaced apart =
    front-more octet (field ++ behind) (ne_eqb octet 32 unspaced.0)
    ∙ ap (λ (cut : List ℕ × List ℕ). (octet ∷ cut.0, cut.1)) (front-of field behind unspaced.1 apart)

pub unspaced-cons : (octet : ℕ) (octets : List ℕ)
    → first_unspaced (octet ∷ octets) ≡ cond (not (octet == 32)) (Some 0) (option_map suc (first_unspaced octets))
unspaced-cons octet octets = position-cons is_unspaced octet octets

abbrev field_from : List ℕ → Option ℕ → Option (List ℕ × List ℕ)
field_from octets place = option_map (λ start. field_in_front (drop start octets)) place

pub field_at-space : (octet : ℕ) (octets : List ℕ) → (octet == 32) ≡ true → field_at (octet ∷ octets) ≡ field_at octets
field_at-space octet octets is =
    ap (field_from (octet ∷ octets)) (unspaced-cons octet octets ∙ ap (λ space. cond (not space) (Some 0) (option_map suc (first_unspaced octets))) is)
    ∙ by (first_unspaced octets)
  where
    by : (place : Option ℕ) → field_from (octet ∷ octets) (option_map suc place) ≡ field_from octets place
    by None = refl
    by (Some place) = refl

pub field_at-here : (octet : ℕ) (octets : List ℕ) → (octet == 32) ≡ false → field_at (octet ∷ octets) ≡ Some (field_in_front (octet ∷ octets))
field_at-here octet octets other =
    ap (field_from (octet ∷ octets)) (unspaced-cons octet octets ∙ ap (λ space. cond (not space) (Some 0) (option_map suc (first_unspaced octets))) other)

-- spaces in front of octets change nothing
field_at-behind : (spaces octets : List ℕ) → AreSpaces spaces → field_at (spaces ++ octets) ≡ field_at octets
field_at-behind [] octets are = refl
field_at-behind (octet ∷ spaces) octets are = field_at-space octet (spaces ++ octets) (eq-eqb octet 32 are.0) ∙ field_at-behind spaces octets are.1

pub field_at-of : (spaces field behind : List ℕ) → AreSpaces spaces → IsField field → StandsApart behind → field_at (spaces ++ (field ++ behind)) ≡ Some (field, behind)
field_at-of spaces [] behind are is_field apart = absurd (omega (arith, is_field.some))
field_at-of spaces (octet ∷ field) behind are is_field apart =
    field_at-behind spaces (octet ∷ field ++ behind) are
    ∙ field_at-here octet (field ++ behind) (ne_eqb octet 32 is_field.unspaced.0)
    ∙ ap Some (front-of (octet ∷ field) behind is_field.unspaced apart)
