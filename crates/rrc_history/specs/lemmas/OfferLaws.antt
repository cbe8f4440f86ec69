-- SPDX-License-Identifier: MIT
-- What an offer leaves of the contents.
use Rattle.std.specs.Prelude.{◌≡◌, ℕ, ◌<◌, ◌≤◌, List, [], ◌∷◌, length, Bool, true, false, ◌||◌, if◌then◌else◌, ◌==◌, Option, Some, None}
use Rattle.std.proofs.Common.{refl, sym, ap, subst, ◌∙◌, arith}
use Rattle.std.proofs.lemmas.Bool.Decides.{nat_tests}
use Rattle.rrc_name.specs.Key.{KeyOf, key_eq}
use Rattle.rrc_name.specs.lemmas.KeyLaws.{key_eq-laws, key_eq-same}
use Rattle.rrc_history.specs.declared.event.Event.{Event}
use Rattle.rrc_history.specs.declared.event.Event.TheVariants.{Offered}
use Rattle.rrc_history.specs.declared.event.Outcome.{Outcome}
use Rattle.rrc_history.specs.declared.event.Outcome.TheVariants.{Kept, Cleared, LessTrusted}
use Rattle.rrc_history.specs.declared.event.Tag.{Tag}
use Rattle.rrc_history.specs.declared.snapshot.Entry.{Entry}
use Rattle.rrc_history.specs.declared.snapshot.Snapshot.{Snapshot}
use Rattle.rrc_history.specs.Fits.{OfferOf}
use Rattle.rrc_history.specs.Past.{entry_at, held, is_evicted, number_after, entry_of, AreContents, last_key}
use Rattle.rrc_history.specs.Right.{evicted_by}
use Rattle.rrc_history.specs.Entries.{staying, goes, kept_after}
use Rattle.rrc_history.specs.lemmas.ContentsLaws.{contents_staying, contents_touched, contents_same}

-- a key that doesn't go is not the offered one
pub stays_apart : (key : KeyOf) (evicted : Option KeyOf) (other : KeyOf) → goes key evicted other ≡ false → key_eq other key ≡ false
stays_apart key evicted other h = by (key_eq key other) refl
  where
    by : (same : Bool) → key_eq key other ≡ same → key_eq other key ≡ false
    by true is = let bad : true ≡ false = sym (ap (λ b. b || is_evicted other evicted) is) ∙ h in absurd cc
    by false is = key_eq-laws.symm other key ∙ is

pub offer_contents : (snapshot : Snapshot) (past : List Event) (tag : Tag) (offer : OfferOf) (outcome : Outcome) (evicted : Option KeyOf) (entries : List Entry)
    → AreContents snapshot past entries → AreContents snapshot (Offered outcome tag offer evicted ∷ past) (kept_after outcome offer (number_after snapshot past) evicted entries)
unfolding held
offer_contents snapshot past tag offer Kept evicted entries are =
    contents_touched snapshot past (Offered Kept tag offer evicted) (goes offer.key evicted) entries (entry_of offer (number_after snapshot past)) are
    (key_eq-laws.refl offer.key) (λ key stays. stays_apart offer.key evicted key stays) (λ key. leaves key (key_eq key offer.key) refl)
  where
    leaves : (key : KeyOf) (same : Bool) → key_eq key offer.key ≡ same
        → (if same then Some (entry_of offer (number_after snapshot past)) else if is_evicted key evicted then None else held snapshot past key)
        ≡ (if same then Some (entry_of offer (number_after snapshot past)) else if goes offer.key evicted key then None else held snapshot past key)
    leaves key true is = refl
    leaves key false is =
        let apart : key_eq offer.key key ≡ false = key_eq-laws.symm offer.key key ∙ is in
        ap (λ b. if b || is_evicted key evicted then None else held snapshot past key) (sym apart)
offer_contents snapshot past tag offer Cleared evicted entries are =
    contents_staying snapshot past (Offered Cleared tag offer evicted) (goes offer.key None) entries are (λ key stays. refl) leaves
  where
    leaves : (key : KeyOf) → (if key_eq key offer.key then None else held snapshot past key) ≡ (if goes offer.key None key then None else held snapshot past key)
    leaves key = let same : key_eq key offer.key ≡ (key_eq offer.key key || false) = key_eq-laws.symm key offer.key ∙ or_false (key_eq offer.key key) in
        ap (λ b. if b then None else held snapshot past key) same
      where
        or_false : (b : Bool) → b ≡ (b || false)
        or_false true = refl
        or_false false = refl
offer_contents snapshot past tag offer LessTrusted evicted entries are =
    contents_same snapshot past (Offered LessTrusted tag offer evicted) entries are refl (λ key. refl)

-- ---- how many are left

pub length-staying_le : (out : KeyOf → Bool) (entries : List Entry) → length (staying out entries) ≤ length entries
length-staying_le out [] = omega arith
length-staying_le out (entry ∷ entries) = by (out entry.key) refl (length-staying_le out entries)
  where
    by : (b : Bool) → out entry.key ≡ b → length (staying out entries) ≤ length entries → length (staying out (entry ∷ entries)) ≤ length (entry ∷ entries)
    by true is rest = rw is (omega arith)
    by false is rest = rw is (omega arith)

-- where a key that is found goes, fewer are left
pub length-staying_found : (out : KeyOf → Bool) (key : KeyOf) (entries : List Entry) (found : Entry) → entry_at key entries ≡ Some found → out key ≡ true
    → length (staying out entries) < length entries
length-staying_found out key [] found h gone = absurd cc
length-staying_found out key (entry ∷ entries) found h gone =
    by (out entry.key) refl (length-staying_le out entries) (λ rest. length-staying_found out key entries found rest gone) (key_eq key entry.key) refl
  where
    by : (b : Bool) → out entry.key ≡ b → length (staying out entries) ≤ length entries
        → (entry_at key entries ≡ Some found → length (staying out entries) < length entries)
        → (same : Bool) → key_eq key entry.key ≡ same → length (staying out (entry ∷ entries)) < length (entry ∷ entries)
    by true is le rest same at = rw is (omega arith)
    by false is le rest true at = let bad : true ≡ false = sym gone ∙ (ap out (key_eq-same key entry.key at) ∙ is) in absurd cc
    by false is le rest false at = let less = rest (rw at at h) in rw is (omega arith)

-- where the last key goes, fewer are left
pub length-staying_last : (out : KeyOf → Bool) (key : KeyOf) (entries : List Entry) → last_key entries ≡ Some key → out key ≡ true → length (staying out entries) < length entries
length-staying_last out key [] h gone = absurd cc
length-staying_last out key (entry ∷ []) h gone =
    let same : out entry.key ≡ true = let k : entry.key ≡ key = cc in ap out k ∙ gone in rw same (omega arith)
length-staying_last out key (entry ∷ next ∷ entries) h gone = by (out entry.key) refl (length-staying_last out key (next ∷ entries) h gone)
  where
    by : (b : Bool) → out entry.key ≡ b → length (staying out (next ∷ entries)) < length (next ∷ entries)
        → length (staying out (entry ∷ next ∷ entries)) < length (entry ∷ next ∷ entries)
    by true is rest = rw is (omega arith)
    by false is rest = rw is (omega arith)

-- an offer leaves no more entries than there may be
pub length-kept_after : (capacity : ℕ) (held' : Option Entry) (outcome : Outcome) (offer : OfferOf) (number : ℕ) (entries : List Entry) → 1 ≤ capacity → length entries ≤ capacity
    → entry_at offer.key entries ≡ held' → length (kept_after outcome offer number (evicted_by capacity entries held' outcome) entries) ≤ capacity
length-kept_after capacity (Some entry) Kept offer number entries some le found =
    let goes_itself : goes offer.key None offer.key ≡ true = ap (λ b. b || false) (key_eq-laws.refl offer.key) in
    omega (arith, length-staying_found (goes offer.key None) offer.key entries entry found goes_itself)
length-kept_after capacity None Kept offer number entries some le found = by (length entries == capacity) refl (last_key entries) refl
  where
    by : (b : Bool) → (length entries == capacity) ≡ b → (last : Option KeyOf) → last_key entries ≡ last
        → length (kept_after Kept offer number (evicted_by capacity entries None Kept) entries) ≤ capacity
    by false is last at =
        let less : length entries < capacity = grind (arith, nat_tests) in
        omega (arith, length-staying_le (goes offer.key (evicted_by capacity entries None Kept)) entries)
    by true is (Some key) at =
        let evicted : evicted_by capacity entries None Kept ≡ Some key = ap (λ b. if b then last_key entries else None) is ∙ at in
        let gone : goes offer.key (Some key) key ≡ true = goes_evicted offer.key key in
        let few : length (kept_after Kept offer number (Some key) entries) ≤ capacity = omega (arith, length-staying_last (goes offer.key (Some key)) key entries at gone) in
        subst (λ (e : Option KeyOf). length (kept_after Kept offer number e entries) ≤ capacity) (sym evicted) few
      where
        goes_evicted : (offered key : KeyOf) → goes offered (Some key) key ≡ true
        goes_evicted offered key = ap (λ b. key_eq offered key || b) (key_eq-laws.refl key) ∙ or_true (key_eq offered key)
          where
            or_true : (b : Bool) → (b || true) ≡ true
            or_true true = refl
            or_true false = refl
    by true is None at = absurd (none_last entries at (grind (arith, nat_tests)))
      where
        none_last : (es : List Entry) → last_key es ≡ None → 1 ≤ length es → ⊥
        none_last [] h some' = omega arith
        none_last (e ∷ []) h some' = absurd cc
        none_last (e ∷ f ∷ es) h some' = none_last (f ∷ es) h (omega arith)
length-kept_after capacity held' Cleared offer number entries some le found = omega (arith, length-staying_le (goes offer.key None) entries)
length-kept_after capacity held' LessTrusted offer number entries some le found = le
