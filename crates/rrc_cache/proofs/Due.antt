-- SPDX-License-Identifier: MIT
-- Expiries that move: which of them come by a time is told alike.
use Rattle.std.proofs.Common.{◌≡◌, List, [], ◌∷◌, ◌++◌, Bool, true, false, ◌||◌, Result, Ok, Err, OnOk, refl, sym, ap, ◌∙◌}
use Rattle.std.specs.Prelude.{if◌then◌else◌}
use Rattle.std.specs.Result.{IsOk}
use Rattle.std.specs.List.{list_any}
use Rattle.std.specs.List.Sorted.{IsPermutation}
use Rattle.std.proofs.lemmas.List.Sorted.{list_any-IsPermutation}
use Rattle.rrc_cache.specs.declared.expiry_queue.Expiry.{Expiry}

or_assoc : (a b c : Bool) → ((a || b) || c) ≡ (a || (b || c))
or_assoc true b c = refl
or_assoc false b c = refl

pub or_none : (a : Bool) → (a || false) ≡ a
or_none true = refl
or_none false = refl

or_swap : (a b c : Bool) → (a || (b || c)) ≡ (b || (a || c))
or_swap true true c = refl
or_swap true false c = refl
or_swap false b c = refl

any-append : (test : Expiry → Bool) (xs ys : List Expiry) → list_any test (xs ++ ys) ≡ (list_any test xs || list_any test ys)
any-append test [] ys = refl
any-append test (x ∷ xs) ys = ap (λ b. test x || b) (any-append test xs ys) ∙ sym (or_assoc (test x) (list_any test xs) (list_any test ys))

-- one more that waits
pub any_pushed : (test : Expiry → Bool) (expiry : Expiry) (waiting pushed due : List Expiry) → IsPermutation (expiry ∷ waiting) pushed
    → (list_any test pushed || list_any test due) ≡ (test expiry || (list_any test waiting || list_any test due))
any_pushed test expiry waiting pushed due moves =
    ap (λ b. b || list_any test due) (sym (list_any-IsPermutation test (expiry ∷ waiting) pushed moves))
    ∙ or_assoc (test expiry) (list_any test waiting) (list_any test due)

-- the first of those that wait becomes due
pub any_moved : (test : Expiry → Bool) (expiry : Expiry) (waiting popped due : List Expiry) → IsPermutation waiting (expiry ∷ popped)
    → (list_any test popped || list_any test (due ++ expiry ∷ [])) ≡ (list_any test waiting || list_any test due)
any_moved test expiry waiting popped due moves =
    ap (λ b. list_any test popped || b) (any-append test due (expiry ∷ []) ∙ behind (list_any test due) (test expiry))
    ∙ (or_swap (list_any test popped) (test expiry) (list_any test due)
    ∙ (sym (or_assoc (test expiry) (list_any test popped) (list_any test due))
    ∙ ap (λ b. b || list_any test due) (sym (list_any-IsPermutation test waiting (expiry ∷ popped) moves))))
  where
    behind : (a b : Bool) → (a || (b || false)) ≡ (b || a)
    behind true true = refl
    behind true false = refl
    behind false true = refl
    behind false false = refl

-- one that was due is taken out
pub any_taken : (test : Expiry → Bool) (expiry : Expiry) (waiting before due : List Expiry) → due ≡ before ++ expiry ∷ []
    → (list_any test waiting || list_any test due) ≡ (test expiry || (list_any test waiting || list_any test before))
any_taken test expiry waiting before due is =
    ap (λ ds. list_any test waiting || list_any test ds) is
    ∙ (ap (λ b. list_any test waiting || b) (any-append test before (expiry ∷ []))
    ∙ shuffled (list_any test waiting) (list_any test before) (test expiry))
  where
    shuffled : (a b c : Bool) → (a || (b || (c || false))) ≡ (c || (a || b))
    shuffled true true true = refl
    shuffled true true false = refl
    shuffled true false true = refl
    shuffled true false false = refl
    shuffled false true true = refl
    shuffled false true false = refl
    shuffled false false true = refl
    shuffled false false false = refl

-- one more, where expiries are kept
pub kept_or : (kept one is other : Bool) → kept ≡ true → (if kept then one || is else other) ≡ (one || (if kept then is else other))
kept_or true one is other at = refl
kept_or false one is other at = absurd cc

-- what stands at an `Ok`, where there is one
pub at_ok : {X E : Type 0} (result : Result X E) (P : Type 0) → IsOk result → OnOk result P → P
at_ok (Ok x) P ok is = is
at_ok (Err e) P ok is = let bad : false ≡ true = ok in absurd cc
