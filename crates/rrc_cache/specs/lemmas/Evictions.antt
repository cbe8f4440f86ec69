-- SPDX-License-Identifier: MIT
-- The last entry, and what clears it.
use Rattle.std.specs.Prelude.{◌≡◌, ℕ, zero, suc, ◌-◌, ◌≤◌, List, [], ◌∷◌, ◌++◌, length, take, Bool, true, false, not, ◌&&◌, ◌==◌, nat_eq, nat_le, nat_lt, Option, Some, None, if◌then◌else◌, slice_get}
use Rattle.std.proofs.Common.{refl, sym, ap, subst, ◌∙◌, arith}
use Rattle.std.proofs.lemmas.Bool.Decides.{nat_tests}
use Rattle.std.proofs.lemmas.List.{append-nil}
use Rattle.std.specs.Cmp.Lexicographic.{pointwise}
use Rattle.std.specs.List.{AllByRecursion}
use Rattle.rrc_name.specs.Key.{KeyOf}
use Rattle.rrc_name.specs.Wire.{folded}
use Rattle.rrc_history.specs.declared.body.Body.{Body}
use Rattle.rrc_history.specs.declared.body.Body.TheVariants.{Positive, Negative, Failure}
use Rattle.rrc_history.specs.declared.body.Trust.TheVariants.{Additional, NonAuthoritativeAnswer, Authority, AuthoritativeAnswer}
use Rattle.rrc_history.specs.declared.event.Outcome.TheVariants.{Kept, Cleared, LessTrusted}
use Rattle.rrc_history.specs.declared.snapshot.Entry.{Entry}
use Rattle.rrc_history.specs.Entries.{AreApart, goes, living, staying}
use Rattle.rrc_history.specs.Fits.{OfferOf, fits, has_items, is_failed, is_lifetime, is_set}
use Rattle.rrc_history.specs.Judged.{is_outranked, verdict}
use Rattle.rrc_history.specs.Lives.{is_fully_expired, rank_of, span, ttl_of}
use Rattle.rrc_history.specs.lemmas.Apart.{staying-middle}
use Rattle.rrc_cache.specs.Evicting.{evicting_body, is_data, Lasts}
use Rattle.rrc_cache.specs.Lasts.{last_of}

-- ---- the last entry

-- the last entry stands behind the others
pub record Ends (entries : List Entry) (entry : Entry) : Type 0 where
  pub front : List Entry
  pub is : entries ≡ front ++ entry ∷ []
  pub others : take (length entries - 1) entries ≡ front
  pub some : 1 ≤ length entries

pub ends : (entries : List Entry) (entry : Entry) → Some entry ≡ last_of entries → Ends entries entry
ends [] entry last = absurd cc
ends (first ∷ []) entry last = record { front = []; is = let same : first ≡ entry = cc in ap (λ e. e ∷ []) same; others = refl; some = omega arith }
ends (first ∷ next ∷ entries) entry last =
    let behind : length (first ∷ next ∷ entries) - 1 ≡ suc (length (next ∷ entries) - 1) = omega arith in
    let rest : Ends (next ∷ entries) entry = ends (next ∷ entries) entry (last ∙ ap (slice_get (first ∷ next ∷ entries)) behind) in
    record {
      front = first ∷ rest.front;
      is = ap (λ es. first ∷ es) rest.is;
      others = ap (λ n. take n (first ∷ next ∷ entries)) behind ∙ ap (λ es. first ∷ es) rest.others;
      some = omega arith;
    }

-- where no entry is the last, there is none
pub none_last : (entries : List Entry) → None ≡ last_of entries → entries ≡ []
none_last [] is = refl
none_last (first ∷ []) is = absurd cc
none_last (first ∷ next ∷ entries) is =
    let behind : length (first ∷ next ∷ entries) - 1 ≡ suc (length (next ∷ entries) - 1) = omega arith in
    let rest : next ∷ entries ≡ [] = none_last (next ∷ entries) (is ∙ ap (slice_get (first ∷ next ∷ entries)) behind) in
    absurd cc

-- its key goes alone
pub last_goes : (entries : List Entry) (entry : Entry) → AreApart entries → Ends entries entry → staying (goes entry.key None) entries ≡ take (length entries - 1) entries
last_goes entries entry apart ending =
    ap (λ es. staying (goes entry.key None) es) ending.is
    ∙ (staying-middle ending.front entry [] (subst AreApart ending.is apart) ∙ (append-nil ending.front ∙ sym ending.others))

-- ---- what clears it

-- nothing is of higher rank than 4
highest : (body : Body) → nat_lt 4 (rank_of body) ≡ false
highest (Positive Additional ttl owner items) = refl
highest (Positive NonAuthoritativeAnswer ttl owner items) = refl
highest (Positive Authority ttl owner items) = refl
highest (Positive AuthoritativeAnswer ttl owner items) = refl
highest (Negative Additional ttl owner soa) = refl
highest (Negative NonAuthoritativeAnswer ttl owner soa) = refl
highest (Negative Authority ttl owner soa) = refl
highest (Negative AuthoritativeAnswer ttl owner soa) = refl
highest (Failure ttl) = refl

and_false : (b : Bool) → (b && false) ≡ false
and_false true = refl
and_false false = refl

-- what a key held, with a TTL of 0
abbrev pub ended : KeyOf → ℕ → Body → OfferOf
ended key moment body = record { key = key; body = evicting_body body; moment = moment }

not_outranked : (found : Option Entry) (key : KeyOf) (moment : ℕ) (body : Body) → is_data body ≡ true → is_outranked found (ended key moment body) ≡ false
not_outranked None key moment body is = refl
not_outranked (Some other) key moment (Positive trust ttl owner items) is =
    ap (λ b. nat_lt (moment - other.moment) (ttl_of other.body) && b) (highest other.body) ∙ and_false (nat_lt (moment - other.moment) (ttl_of other.body))
not_outranked (Some other) key moment (Negative trust ttl owner soa) is =
    ap (λ b. nat_lt (moment - other.moment) (ttl_of other.body) && b) (highest other.body) ∙ and_false (nat_lt (moment - other.moment) (ttl_of other.body))
not_outranked (Some other) key moment (Failure ttl) is = absurd cc

-- data are cleared
pub cleared : (found : Option Entry) (key : KeyOf) (moment : ℕ) (body : Body) → is_data body ≡ true → verdict found (ended key moment body) ≡ Cleared
cleared found key moment (Positive trust ttl owner items) is =
    ap (λ b. if b then LessTrusted else if 0 == 0 then Cleared else Kept) (not_outranked found key moment (Positive trust ttl owner items) is)
cleared found key moment (Negative trust ttl owner soa) is =
    ap (λ b. if b then LessTrusted else if 0 == 0 then Cleared else Kept) (not_outranked found key moment (Negative trust ttl owner soa) is)
cleared found key moment (Failure ttl) is = absurd cc

-- what fits a key fits it with a TTL of 0
pub ended_fits : (key : KeyOf) (body : Body) → fits key body ≡ true → fits key (evicting_body body) ≡ true
ended_fits key (Positive trust ttl owner items) is = four (is_set key.slot) (pointwise nat_eq (folded owner) key.name) (has_items items) (is_lifetime ttl) is
  where
    four : (a b c d : Bool) → (a && (b && (c && d))) ≡ true → (a && (b && (c && true))) ≡ true
    four true true true d all = refl
    four true true false d all = absurd cc
    four true false c d all = absurd cc
    four false b c d all = absurd cc
ended_fits key (Negative trust ttl owner soa) is = two (not (is_failed key.slot)) (is_lifetime ttl) is
  where
    two : (a b : Bool) → (a && b) ≡ true → (a && true) ≡ true
    two true b both = refl
    two false b both = absurd cc
ended_fits key (Failure ttl) is = two (is_failed key.slot) (is_lifetime ttl) is
  where
    two : (a b : Bool) → (a && b) ≡ true → (a && true) ≡ true
    two true b both = refl
    two false b both = absurd cc

-- a body that is no data is a failure
pub failure_body : (body : Body) → is_data body ≡ false → (ttl : ℕ) × (body ≡ Failure ttl)
failure_body (Positive trust ttl owner items) none = absurd cc
failure_body (Negative trust ttl owner soa) none = absurd cc
failure_body (Failure ttl) none = (ttl, refl)

-- ---- entries that last

pub living_all : (stale : ℕ) (entries : List Entry) → AllByRecursion (Lasts stale) entries → living stale 0 entries ≡ entries
living_all stale [] all = refl
living_all stale (entry ∷ entries) all =
    let lives : is_fully_expired stale entry 0 ≡ false = all.0 in
    rw lives (ap (λ es. entry ∷ es) (living_all stale entries all.1))

pub all_taken : (stale count : ℕ) (entries : List Entry) → AllByRecursion (Lasts stale) entries → AllByRecursion (Lasts stale) (take count entries)
all_taken stale zero entries all = tt
all_taken stale (suc count) [] all = tt
all_taken stale (suc count) (entry ∷ entries) all = (all.0, all_taken stale count entries all.1)

-- a failure of no second is fully expired at moment 0
pub no_second : (stale : ℕ) (entry : Entry) → entry.body ≡ Failure 0 → is_fully_expired stale entry 0 ≡ true
no_second stale entry is = ap (λ body. nat_le (span stale body) (0 - entry.moment)) is ∙ any (0 - entry.moment)
  where
    any : (n : ℕ) → nat_le 0 n ≡ true
    any n = grind (arith, nat_tests)
