-- SPDX-License-Identifier: MIT
-- An entry that is put in front evicts the last one where there are then too many.
use Rattle.std.proofs.Common.{◌≡◌, ℕ, suc, ◌-◌, ◌<◌, ◌≤◌, List, [], ◌∷◌, length, take, Option, Some, None, true, false, ◌||◌, refl, ap, sym, subst, ◌∙◌, arith}
use Rattle.std.specs.Prelude.{if◌then◌else◌, ◌==◌}
use Rattle.std.proofs.lemmas.Bool.Decides.{nat_tests}
use Rattle.rrc_name.specs.Key.{KeyOf, key_eq}
use Rattle.rrc_name.specs.lemmas.KeyLaws.{key_eq-laws}
use Rattle.rrc_history.specs.declared.event.Outcome.TheVariants.{Kept}
use Rattle.rrc_history.specs.declared.snapshot.Entry.{Entry}
use Rattle.rrc_history.specs.Past.{entry_at, last_key}
use Rattle.rrc_history.specs.Right.{evicted_by}
use Rattle.rrc_history.specs.Entries.{LacksKey, AreApart, goes, staying}
use Rattle.rrc_history.specs.lemmas.Apart.{staying-lacks}
use Rattle.rrc_history.specs.lemmas.OfferLaws.{length-staying_found}
use Rattle.rrc_cache.specs.Taken.{IsPlaced}
use Rattle.rrc_cache.proofs.Last.{lacks_last}
use Rattle.rrc_cache.proofs.Paired.{absent_lacks}

-- the last entry alone goes
all_but_last : (key : KeyOf) (entries : List Entry) (last : KeyOf) → LacksKey key entries → AreApart entries → last_key entries ≡ Some last
    → staying (goes key (Some last)) entries ≡ take (length entries - 1) entries
all_but_last key [] last lacks apart is = absurd cc
all_but_last key (entry ∷ []) last lacks apart is =
    let same : entry.key ≡ last = cc in
    let own : key_eq entry.key last ≡ true = subst (λ k. key_eq entry.key k ≡ true) same (key_eq-laws.refl entry.key) in
    let other = lacks.0 in
    rw (other, own) refl
all_but_last key (entry ∷ next ∷ entries) last lacks apart is =
    let other = lacks.0 in
    let stays : key_eq entry.key last ≡ false = lacks_last entry.key (next ∷ entries) last apart.0 is in
    let rest = all_but_last key (next ∷ entries) last lacks.1 apart.1 is in
    let many : length (entry ∷ next ∷ entries) - 1 ≡ suc (length (next ∷ entries) - 1) = omega arith in
    rw (other, stays) (ap (λ es. entry ∷ es) rest ∙ ap (λ n. take n (entry ∷ next ∷ entries)) (sym many))

-- where there is room nothing is evicted
pub placed_within : (capacity : ℕ) (entry : Entry) (before : List Entry) → length (entry ∷ staying (goes entry.key None) before) ≤ capacity
    → IsPlaced capacity entry before None (entry ∷ staying (goes entry.key None) before)
placed_within capacity entry before few = record { evicts = by (entry_at entry.key before) refl; left = refl }
  where
    by : (found : Option Entry) → entry_at entry.key before ≡ found → None ≡ evicted_by capacity before found Kept
    by (Some held) is = refl
    by None is =
        let all : staying (goes entry.key None) before ≡ before = staying-lacks entry.key before (absent_lacks entry.key before is) in
        let less : length before < capacity = omega (arith, ap length all, few) in
        let not_full : (length before == capacity) ≡ false = grind (arith, nat_tests) in
        ap (λ b. if b then last_key before else None) (sym not_full)

-- where there is none the last one is
pub placed_beyond : (capacity : ℕ) (entry : Entry) (before : List Entry) → 1 ≤ capacity → length before ≤ capacity → AreApart before
    → capacity < length (entry ∷ staying (goes entry.key None) before)
    → IsPlaced capacity entry before (last_key (entry ∷ staying (goes entry.key None) before))
    (take (length (entry ∷ staying (goes entry.key None) before) - 1) (entry ∷ staying (goes entry.key None) before))
placed_beyond capacity entry before some few apart many = by (entry_at entry.key before) refl
  where
    full : (es : List Entry) → entry_at entry.key es ≡ None → 1 ≤ length es → length es ≡ capacity → AreApart es → (last : Option KeyOf) → last_key es ≡ last
        → IsPlaced capacity entry es (last_key (entry ∷ es)) (take (length (entry ∷ es) - 1) (entry ∷ es))
    full [] none some' is apart' last at = absurd (omega arith)
    full (first ∷ es) none some' is apart' None at = absurd (none_last first es at)
      where
        none_last : (e : Entry) (fs : List Entry) → last_key (e ∷ fs) ≡ None → ⊥
        none_last e [] h = absurd cc
        none_last e (f ∷ fs) h = none_last f fs h
    full (first ∷ es) none some' is apart' (Some last) at =
        let tested : (length (first ∷ es) == capacity) ≡ true = grind (arith, nat_tests) in
        let evicted : evicted_by capacity (first ∷ es) (entry_at entry.key (first ∷ es)) Kept ≡ Some last =
        ap (λ found. evicted_by capacity (first ∷ es) found Kept) none ∙ (ap (λ b. if b then last_key (first ∷ es) else None) tested ∙ at) in
        let left = all_but_last entry.key (first ∷ es) last (absent_lacks entry.key (first ∷ es) none) apart' at in
        let behind : length (entry ∷ first ∷ es) - 1 ≡ suc (length (first ∷ es) - 1) = omega arith in
        record {
          evicts = at ∙ sym evicted;
          left =
              ap (λ n. take n (entry ∷ first ∷ es)) behind
              ∙ (ap (λ rest. entry ∷ rest) (sym left) ∙ ap (λ gone. entry ∷ staying (goes entry.key gone) (first ∷ es)) (sym at));
        }

    by : (found : Option Entry) → entry_at entry.key before ≡ found
        → IsPlaced capacity entry before (last_key (entry ∷ staying (goes entry.key None) before))
        (take (length (entry ∷ staying (goes entry.key None) before) - 1) (entry ∷ staying (goes entry.key None) before))
    by (Some held) is =
        let gone : goes entry.key None entry.key ≡ true = ap (λ b. b || false) (key_eq-laws.refl entry.key) in
        let fewer = length-staying_found (goes entry.key None) entry.key before held is gone in
        absurd (omega (arith, fewer, few, many))
    by None is =
        let all : staying (goes entry.key None) before ≡ before = staying-lacks entry.key before (absent_lacks entry.key before is) in
        let exact : length before ≡ capacity = omega (arith, ap length all, few, many) in
        let P : List Entry → Type 0 = λ es. IsPlaced capacity entry before (last_key (entry ∷ es)) (take (length (entry ∷ es) - 1) (entry ∷ es)) in
        subst P (sym all) (full before is (omega (arith, exact, some)) exact apart (last_key before) refl)
