-- SPDX-License-Identifier: MIT
-- What is cut at a comma is the first piece of what is split at commas.
use Rattle.std.proofs.Common.{◌≡◌, ℕ, ◌+◌, ◌<◌, ◌≤◌, List, [], ◌∷◌, length, take, drop, Option, Some, None, true, false, Bool, refl, ap, subst, ◌∙◌, arith, cond, position, nat_lt, not, option_map, unwrap_or}
use Rattle.std.specs.List.{slice_split, position_or_len, onto_first}
use Rattle.std.proofs.lemmas.List.Splits.{slice_split_first}
use Rattle.std.proofs.lemmas.Bool.Decides.{nat_tests}
use Rattle.rrc_text.specs.Commas.{is_comma, cut_round, cut_at_comma}

chosen : (b : Bool) (place end : ℕ) → cond b (Some place) None ≡ Some end → (b ≡ true) × (place ≡ end)
chosen true place end h = (refl, cc)
chosen false place end h = absurd cc

split_at_place : (octets : List ℕ) (end : ℕ) → position is_comma octets ≡ Some end
    → slice_split is_comma octets ≡ take end octets ∷ slice_split is_comma (drop (end + 1) octets)
split_at_place octets end h =
    let found = chosen (nat_lt (position_or_len is_comma octets) (length octets)) (position_or_len is_comma octets) end h in
    let inside : position_or_len is_comma octets < length octets = grind (arith, nat_tests, found.0) in
    subst (λ e. slice_split is_comma octets ≡ take e octets ∷ slice_split is_comma (drop (e + 1) octets)) found.1
    (slice_split_first is_comma octets 0 inside)

not_chosen : (b : Bool) (place : ℕ) → cond b (Some place) None ≡ None → b ≡ false
not_chosen true place h = absurd cc
not_chosen false place h = refl

pub uncut : (octets : List ℕ) → length octets ≤ position_or_len is_comma octets → slice_split is_comma octets ≡ octets ∷ []
uncut [] h = refl
uncut (octet ∷ octets) h =
    let rest : length octets ≤ position_or_len is_comma octets → slice_split is_comma octets ≡ octets ∷ [] = uncut octets in
    elim (is_comma octet) as (λ is. length (octet ∷ octets) ≤ cond (not is) (1 + position_or_len is_comma octets) 0
    → cond is ([] ∷ slice_split is_comma octets) (onto_first octet (slice_split is_comma octets)) ≡ (octet ∷ octets) ∷ []) [
      | true ↦ λ far. absurd (omega arith)
      | false ↦ λ far. ap (onto_first octet) (rest (omega arith))
    ] h

split_nowhere : (octets : List ℕ) → position is_comma octets ≡ None → slice_split is_comma octets ≡ octets ∷ []
split_nowhere octets h =
    let far = not_chosen (nat_lt (position_or_len is_comma octets) (length octets)) (position_or_len is_comma octets) h in
    let past : length octets ≤ position_or_len is_comma octets = grind (arith, nat_tests, far) in
    uncut octets past

cut_at : (octets piece more : List ℕ) (place : Option ℕ) → position is_comma octets ≡ place
    → option_map (cut_round octets) place ≡ Some (piece, more) → slice_split is_comma octets ≡ piece ∷ slice_split is_comma more
cut_at octets piece more None is h = absurd cc
cut_at octets piece more (Some end) is h =
    let front : take end octets ≡ piece = ap (λ (o : Option (List ℕ × List ℕ)). (unwrap_or o ([], [])).0) h in
    let rest : drop (end + 1) octets ≡ more = ap (λ (o : Option (List ℕ × List ℕ)). (unwrap_or o ([], [])).1) h in
    split_at_place octets end is ∙ ap (λ p. p ∷ slice_split is_comma (drop (end + 1) octets)) front ∙ ap (λ m. piece ∷ slice_split is_comma m) rest

-- the first piece ends at the first comma
pub split_at_comma : (octets piece more : List ℕ) → cut_at_comma octets ≡ Some (piece, more) → slice_split is_comma octets ≡ piece ∷ slice_split is_comma more
split_at_comma octets piece more h = cut_at octets piece more (position is_comma octets) refl h

cut_nowhere : (octets : List ℕ) (place : Option ℕ) → position is_comma octets ≡ place
    → option_map (cut_round octets) place ≡ None → slice_split is_comma octets ≡ octets ∷ []
cut_nowhere octets None is h = split_nowhere octets is
cut_nowhere octets (Some end) is h = absurd cc

-- without a comma there is one piece
pub split_uncut : (octets : List ℕ) → cut_at_comma octets ≡ None → slice_split is_comma octets ≡ octets ∷ []
split_uncut octets h = cut_nowhere octets (position is_comma octets) refl h
