-- SPDX-License-Identifier: MIT
-- The place of the set that a record is one of.
use Rattle.std.proofs.Common.{◌≡◌, ℕ, suc, ◌+◌, ◌<◌, ◌≤◌, List, [], ◌∷◌, ◌++◌, length, get_or, Some, None, Bool, true, false, cond, not, refl, ap, subst, arith, position, nat_lt}
use Rattle.std.specs.List.{position_or_len, slice_set}
use Rattle.std.proofs.lemmas.Bool.Decides.{nat_tests}
use Rattle.rrc_wire.specs.declared.record.Rr.{Rr}
use Rattle.rrc_sets.specs.Sets.{SetOf}
use Rattle.rrc_sets.specs.Gathering.{holds, alone, grown, with_record}

-- the set takes the record
abbrev pub takes : Rr → SetOf → Bool
takes rr set = holds set rr

pub at_place : (rr : Rr) (sets : List SetOf) (d : SetOf) → position_or_len (takes rr) sets < length sets
    → with_record sets rr ≡ slice_set sets (position_or_len (takes rr) sets) (grown (get_or sets (position_or_len (takes rr) sets) d) rr)
unfolding with_record
at_place rr [] d inside = absurd (omega arith)
at_place rr (set ∷ sets) d inside =
    let further : position_or_len (takes rr) sets < length sets → with_record sets rr ≡ slice_set sets (position_or_len (takes rr) sets) (grown (get_or sets (position_or_len (takes rr) sets) d) rr) = at_place rr sets d in
    elim (holds set rr) as (λ is. cond (not is) (1 + position_or_len (takes rr) sets) 0 < length (set ∷ sets)
    → cond is (grown set rr ∷ sets) (set ∷ with_record sets rr)
    ≡ slice_set (set ∷ sets) (cond (not is) (1 + position_or_len (takes rr) sets) 0) (grown (get_or (set ∷ sets) (cond (not is) (1 + position_or_len (takes rr) sets) 0) d) rr)) [
      | true ↦ λ _. refl
      | false ↦ λ within.
          let one : 1 + position_or_len (takes rr) sets ≡ suc (position_or_len (takes rr) sets) = omega arith in
          rw one (ap (λ more. set ∷ more) (further (omega arith)))
    ] inside

pub no_place : (rr : Rr) (sets : List SetOf) → length sets ≤ position_or_len (takes rr) sets → with_record sets rr ≡ sets ++ alone rr ∷ []
unfolding with_record
no_place rr [] past = refl
no_place rr (set ∷ sets) past =
    let further : length sets ≤ position_or_len (takes rr) sets → with_record sets rr ≡ sets ++ alone rr ∷ [] = no_place rr sets in
    elim (holds set rr) as (λ is. length (set ∷ sets) ≤ cond (not is) (1 + position_or_len (takes rr) sets) 0
    → cond is (grown set rr ∷ sets) (set ∷ with_record sets rr) ≡ set ∷ (sets ++ alone rr ∷ [])) [
      | true ↦ λ none. absurd (omega arith)
      | false ↦ λ none. ap (λ more. set ∷ more) (further (omega arith))
    ] past

chosen : (b : Bool) (at place : ℕ) → cond b (Some at) None ≡ Some place → (b ≡ true) × (at ≡ place)
chosen true at place h = (refl, cc)
chosen false at place h = absurd cc

not_chosen : (b : Bool) (at : ℕ) → cond b (Some at) None ≡ None → b ≡ false
not_chosen true at h = absurd cc
not_chosen false at h = refl

-- a record goes into the set at its place
pub with_record-Some : (sets : List SetOf) (rr : Rr) (place : ℕ) (d : SetOf) → position (takes rr) sets ≡ Some place
    → with_record sets rr ≡ slice_set sets place (grown (get_or sets place d) rr)
with_record-Some sets rr place d h =
    let found = chosen (nat_lt (position_or_len (takes rr) sets) (length sets)) (position_or_len (takes rr) sets) place h in
    let inside : position_or_len (takes rr) sets < length sets = grind (arith, nat_tests, found.0) in
    subst (λ at. with_record sets rr ≡ slice_set sets at (grown (get_or sets at d) rr)) found.1 (at_place rr sets d inside)

-- a record that is of no set has one of its own behind them
pub with_record-None : (sets : List SetOf) (rr : Rr) → position (takes rr) sets ≡ None → with_record sets rr ≡ sets ++ alone rr ∷ []
with_record-None sets rr h =
    let nowhere = not_chosen (nat_lt (position_or_len (takes rr) sets) (length sets)) (position_or_len (takes rr) sets) h in
    no_place rr sets (grind (arith, nat_tests, nowhere))
