-- SPDX-License-Identifier: MIT
-- What is found under a key after an edit of the entries.
use Rattle.std.specs.Prelude.{◌≡◌, List, [], ◌∷◌, Bool, true, false, not, if◌then◌else◌, Some, None, find, filter}
use Rattle.std.proofs.Common.{refl, sym, ap, subst, ◌∙◌}
use Rattle.rrc_name.specs.Key.{KeyOf, key_eq}
use Rattle.rrc_name.specs.lemmas.KeyLaws.{key_eq-same}
use Rattle.rrc_history.specs.declared.snapshot.Entry.{Entry}
use Rattle.rrc_history.specs.Past.{entry_at}
use Rattle.rrc_history.specs.Entries.{staying}

-- ---- of any list

-- where what is left out is just not wanted, or just wanted
pub find-filter_not : {X : Type 0} (wanted out : X → Bool) → ((x : X) → out x ≡ true → wanted x ≡ false) → (xs : List X)
    → find wanted (filter (λ x. not (out x)) xs) ≡ find wanted xs
find-filter_not wanted out apart [] = refl
find-filter_not wanted out apart (x ∷ xs) = by (out x) refl (find-filter_not wanted out apart xs)
  where
    by : (left : Bool) → out x ≡ left → find wanted (filter (λ y. not (out y)) xs) ≡ find wanted xs
        → find wanted (filter (λ y. not (out y)) (x ∷ xs)) ≡ find wanted (x ∷ xs)
    by true is rest = let not_wanted = apart x is in rw (is, not_wanted) rest
    by false is rest = rw is (ap (λ later. if wanted x then Some x else later) rest)

pub find-filter_none : {X : Type 0} (wanted out : X → Bool) → ((x : X) → wanted x ≡ true → out x ≡ true) → (xs : List X)
    → find wanted (filter (λ x. not (out x)) xs) ≡ None
find-filter_none wanted out all [] = refl
find-filter_none wanted out all (x ∷ xs) = by (out x) refl (wanted x) refl (find-filter_none wanted out all xs)
  where
    by : (left : Bool) → out x ≡ left → (found : Bool) → wanted x ≡ found → find wanted (filter (λ y. not (out y)) xs) ≡ None
        → find wanted (filter (λ y. not (out y)) (x ∷ xs)) ≡ None
    by true is found at rest = rw (is, filter) rest
    by false is true at rest = let bad : true ≡ false = sym (all x at) ∙ is in absurd cc
    by false is false at rest = rw is (rw at rest)

-- what is found passes the test
pub find-passes : {X : Type 0} (test : X → Bool) (xs : List X) (y : X) → find test xs ≡ Some y → test y ≡ true
find-passes test [] y h = absurd cc
find-passes test (x ∷ xs) y h = by (test x) refl (find-passes test xs y)
  where
    by : (found : Bool) → test x ≡ found → (find test xs ≡ Some y → test y ≡ true) → test y ≡ true
    by true is rest = let same : x ≡ y = cc (rw is at h) in subst (λ z. test z ≡ true) same is
    by false is rest = rest (rw is at h)

-- ---- of entries

-- a test of keys says the same of keys that are the same
pub same_of_keys : (out : KeyOf → Bool) (a b : KeyOf) → key_eq a b ≡ true → out a ≡ out b
same_of_keys out a b same = ap out (key_eq-same a b same)

pub entry_at-staying : (out : KeyOf → Bool) (key : KeyOf) (entries : List Entry) → entry_at key (staying out entries) ≡ (if out key then None else entry_at key entries)
entry_at-staying out key entries = by (out key) refl
  where
    by : (gone : Bool) → out key ≡ gone → entry_at key (staying out entries) ≡ (if gone then None else entry_at key entries)
    by true is = find-filter_none (λ (entry : Entry). key_eq key entry.key) (λ (entry : Entry). out entry.key) (λ entry same. sym (same_of_keys out key entry.key same) ∙ is) entries
    by false is =
        find-filter_not (λ (entry : Entry). key_eq key entry.key) (λ (entry : Entry). out entry.key)
        (λ entry gone. apart entry gone (key_eq key entry.key) refl) entries
      where
        apart : (entry : Entry) → out entry.key ≡ true → (same : Bool) → key_eq key entry.key ≡ same → key_eq key entry.key ≡ false
        apart entry gone true same = let bad : true ≡ false = sym gone ∙ (sym (same_of_keys out key entry.key same) ∙ is) in absurd cc
        apart entry gone false same = same

-- an entry that is found has the key
pub entry_at-key : (key : KeyOf) (entries : List Entry) (entry : Entry) → entry_at key entries ≡ Some entry → key ≡ entry.key
entry_at-key key entries entry h = key_eq-same key entry.key (find-passes (λ (e : Entry). key_eq key e.key) entries entry h)
