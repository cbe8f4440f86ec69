-- SPDX-License-Identifier: MIT
-- The values of digits, numbers that are not too large, ranks of trust, and where a slash stands.
use Rattle.std.proofs.Common.{◌≡◌, ◌≢◌, ◌==◌, ◌≤◌, ℕ, suc, ◌+◌, ◌-◌, List, [], ◌∷◌, ◌++◌, Option, Some, None, Bool, true, false, cond, refl, sym, ap, subst, ◌∙◌, arith, nat_le, length, take, drop, option_map, ne_eqb, leb-true, le-leb}
use Rattle.std.specs.Char.{is_ascii_digit}
use Rattle.std.specs.List.{AllByRecursion}
use Rattle.std.proofs.lemmas.Bool.{and_parts, and_from}
use Rattle.rrc_history.specs.Lives.{rank as rank_of_trust}
use Rattle.rrc_history.specs.declared.body.Trust.{Trust}
use Rattle.rrc_history.specs.declared.body.Trust.TheVariants.{Additional, NonAuthoritativeAnswer, Authority, AuthoritativeAnswer}
use Rattle.rrc_text.specs.Numbers.{at_most, slash_in, rank}
use Rattle.rrc_text.proofs.SaidLemmas.{said_last}
use Rattle.rrc_text.proofs.SearchLemmas.{position-cons}

-- a decimal digit has a value of at most 9
pub record HasValue (digit : ℕ) : Type 0 where
  pub small : digit - 48 ≤ 9
  pub same : 48 + (digit - 48) ≡ digit

pub digit-value : (digit : ℕ) → is_ascii_digit digit ≡ true → HasValue digit
digit-value digit is =
    let within = and_parts (nat_le 48 digit) (nat_le digit 57) is in
    let low : 48 ≤ digit = leb-true 48 digit within.0 in
    let high : digit ≤ 57 = leb-true digit 57 within.1 in
    record { small = omega (arith, low, high); same = omega (arith, low) }

pub value-digit : (value : ℕ) → value ≤ 9 → is_ascii_digit (48 + value) ≡ true
value-digit value small =
    and_from (nat_le 48 (48 + value)) (nat_le (48 + value) 57) (le-leb 48 (48 + value) (omega arith)) (le-leb (48 + value) 57 (omega (arith, small)))

-- a number that is not too large
pub record IsWithin (most : ℕ) (number : Option ℕ) (value : ℕ) : Type 0 where
  pub is : number ≡ Some value
  pub few : value ≤ most

pub at_most-says : (most : ℕ) (number : Option ℕ) (value : ℕ) → at_most most number ≡ Some value → IsWithin most number value
at_most-says most None value said = absurd cc
at_most-says most (Some number) value said = by (nat_le number most) refl
  where
    by : (few : Bool) → nat_le number most ≡ few → IsWithin most (Some number) value
    by true few =
        let same : number ≡ value = said_last (rw few at said) in
        record { is = ap Some same; few = subst (λ n. n ≤ most) same (leb-true number most few) }
    by false few = let never : None ≡ Some value = rw few at said in absurd cc

pub within-is : (most : ℕ) (number : Option ℕ) (value : ℕ) → number ≡ Some value → value ≤ most → at_most most number ≡ Some value
within-is most number value is few = rw (is, le-leb value most few) refl

-- how a field is cut at its first slash
abbrev pub slash_from : ℕ → List ℕ → Bool → Option ℕ
slash_from octet octets is = cond is (Some 0) (option_map suc (slash_in octets))

pub slash-cons : (octet : ℕ) (octets : List ℕ) → slash_in (octet ∷ octets) ≡ slash_from octet octets (octet == 47)
slash-cons octet octets = position-cons (λ other. other == 47) octet octets

pub slash-none : (octets : List ℕ) → AllByRecursion (λ octet. octet ≢ 47) octets → slash_in octets ≡ None
slash-none [] none = refl
slash-none (octet ∷ octets) none =
    slash-cons octet octets ∙ (ap (slash_from octet octets) (ne_eqb octet 47 none.0) ∙ ap (option_map suc) (slash-none octets none.1))

pub slash-behind : (front behind : List ℕ) → AllByRecursion (λ octet. octet ≢ 47) front → slash_in (front ++ 47 ∷ behind) ≡ Some (length front)
slash-behind [] behind none = slash-cons 47 behind
slash-behind (octet ∷ front) behind none =
    slash-cons octet (front ++ 47 ∷ behind)
    ∙ (ap (slash_from octet (front ++ 47 ∷ behind)) (ne_eqb octet 47 none.0) ∙ ap (option_map suc) (slash-behind front behind none.1))

pub take-front : (front behind : List ℕ) → take (length front) (front ++ behind) ≡ front
take-front [] behind = refl
take-front (octet ∷ front) behind = ap (λ octets. octet ∷ octets) (take-front front behind)

pub one_more : (n : ℕ) → suc (n + 1) ≡ suc n + 1
one_more n = omega arith

pub drop-front : (front behind : List ℕ) (octet : ℕ) → drop (length front + 1) (front ++ octet ∷ behind) ≡ behind
drop-front [] behind octet = refl
drop-front (first ∷ front) behind octet =
    ap (λ (n : ℕ). drop n (first ∷ (front ++ octet ∷ behind))) (sym (one_more (length front))) ∙ drop-front front behind octet

pub rank-ranked : (trust : Trust) → rank (rank_of_trust trust) ≡ Some trust
rank-ranked Additional = refl
rank-ranked NonAuthoritativeAnswer = refl
rank-ranked Authority = refl
rank-ranked AuthoritativeAnswer = refl

pub rank-small : (trust : Trust) → rank_of_trust trust ≤ 4
rank-small Additional = omega arith
rank-small NonAuthoritativeAnswer = omega arith
rank-small Authority = omega arith
rank-small AuthoritativeAnswer = omega arith
