-- SPDX-License-Identifier: MIT
-- Two lists, place by place, and elements of a list.
use Rattle.std.proofs.Common.{◌≡◌, ℕ, zero, suc, ◌<◌, List, [], ◌∷◌, ◌++◌, length, get_or, take, drop, map, refl, sym, ap, subst, ◌∙◌, arith}
use Rattle.std.proofs.lemmas.List.{append-nil, drop_all, take_all}
use Rattle.std.specs.List.{All, AllPairs, AllZip, Any}
use Rattle.std.proofs.lemmas.List.Elements.{All-nil, All-cons, All-head, All-tail}

pub zip_push : {A B : Type 0} (R : A → B → Type 0) (xs : List A) (ys : List B) (x : A) (y : B) → AllZip R xs ys → R x y → AllZip R (xs ++ x ∷ []) (ys ++ y ∷ [])
zip_push R [] [] x y all last = (last, tt)
zip_push R [] (z ∷ zs) x y all last = absurd all
zip_push R (z ∷ zs) [] x y all last = absurd all
zip_push R (w ∷ ws) (z ∷ zs) x y all last = (all.0, zip_push R ws zs x y all.1 last)

-- what stands where an element does
pub zip_pick : {A B : Type 0} (R : A → B → Type 0) (P : B → Type 0) (before : List A) (x : A) (behind : List A) (ys : List B) → AllZip R (before ++ x ∷ behind) ys → All P ys
    → (y : B) × R x y × P y
zip_pick R P [] x behind [] zipped all = absurd zipped
zip_pick R P [] x behind (y ∷ ys) zipped all = (y, zipped.0, All-head P y ys all)
zip_pick R P (z ∷ before) x behind [] zipped all = absurd zipped
zip_pick R P (z ∷ before) x behind (y ∷ ys) zipped all = zip_pick R P before x behind ys zipped.1 (All-tail P y ys all)

-- the element at a place, and what stands there
pub zip_at : {A B : Type 0} (R : A → B → Type 0) (xs : List A) (ys : List B) (i : ℕ) (x : A) (y : B) → AllZip R xs ys → i < length xs → R (get_or xs i x) (get_or ys i y)
zip_at R [] ys i x y all within = absurd (omega (arith, within))
zip_at R (z ∷ xs) [] i x y all within = absurd all
zip_at R (z ∷ xs) (w ∷ ys) zero x y all within = all.0
zip_at R (z ∷ xs) (w ∷ ys) (suc i) x y all within = zip_at R xs ys i x y all.1 (omega (arith, within))

-- lists of one length, of which what stands at each place goes together
pub zip_from : {A B : Type 0} (R : A → B → Type 0) (xs : List A) (ys : List B) → length xs ≡ length ys
    → ((i : ℕ) (x : A) (y : B) → i < length xs → R (get_or xs i x) (get_or ys i y)) → AllZip R xs ys
zip_from R [] [] size each = tt
zip_from R [] (y ∷ ys) size each = absurd (omega (arith, size))
zip_from R (x ∷ xs) [] size each = absurd (omega (arith, size))
zip_from R (x ∷ xs) (y ∷ ys) size each =
    (each 0 x y (omega arith), zip_from R xs ys (omega (arith, size)) (λ i d e within. each (suc i) d e (omega (arith, within))))

pub any_within : {X : Type 0} (P : X → Type 0) (before : List X) (x : X) (behind : List X) → P x → Any P (before ++ x ∷ behind)
any_within P [] x behind p = (0, x, omega arith, refl, p)
any_within P (y ∷ before) x behind p =
    let rest = any_within P before x behind p in
    let within = rest.2 in
    (suc rest.0, rest.1, omega (arith, within), rest.3, rest.4)

pub any_alone : {X : Type 0} (P : X → Type 0) (x : X) → Any P (x ∷ []) → P x
any_alone P x (zero, y, within, is, p) = subst P (sym is) p
any_alone P x (suc k, y, within, is, p) = absurd (omega (arith, within))

-- ---- what holds of each element

pub all_left : {X : Type 0} (P : X → Type 0) (xs ys : List X) → All P (xs ++ ys) → All P xs
all_left P [] ys all = All-nil P
all_left P (x ∷ xs) ys all = All-cons P x xs (All-head P x (xs ++ ys) all) (all_left P xs ys (All-tail P x (xs ++ ys) all))

pub all_right : {X : Type 0} (P : X → Type 0) (xs ys : List X) → All P (xs ++ ys) → All P ys
all_right P [] ys all = all
all_right P (x ∷ xs) ys all = all_right P xs ys (All-tail P x (xs ++ ys) all)

pub all_unmap : {X Y : Type 0} (P : X → Type 0) (f : Y → X) (ys : List Y) → All P (map f ys) → All (λ y. P (f y)) ys
all_unmap P f [] all = All-nil (λ y. P (f y))
all_unmap P f (y ∷ ys) all = All-cons (λ y. P (f y)) y ys (All-head P (f y) (map f ys) all) (all_unmap P f ys (All-tail P (f y) (map f ys) all))

pairs_head : {X : Type 0} (R : X → X → Type 0) (x : X) (xs : List X) → AllPairs R (x ∷ xs) → All (R x) xs
pairs_head R x xs pairs k d within = pairs 0 (suc k) d (omega arith) (omega arith)

pairs_tail : {X : Type 0} (R : X → X → Type 0) (x : X) (xs : List X) → AllPairs R (x ∷ xs) → AllPairs R xs
pairs_tail R x xs pairs i j d below within = pairs (suc i) (suc j) d (omega arith) (omega arith)

-- each element before one, and that one
pub pairs_before : {X : Type 0} (R : X → X → Type 0) (xs : List X) (y : X) (zs : List X) → AllPairs R (xs ++ y ∷ zs) → All (λ x. R x y) xs
pairs_before R [] y zs pairs = All-nil (λ x. R x y)
pairs_before R (x ∷ xs) y zs pairs =
    All-cons (λ x. R x y) x xs (All-head (R x) y zs (all_right (R x) xs (y ∷ zs) (pairs_head R x (xs ++ y ∷ zs) pairs)))
    (pairs_before R xs y zs (pairs_tail R x (xs ++ y ∷ zs) pairs))

-- a slice of all values of a vector, written back
pub written_back : {X : Type 0} (n : ℕ) (values items : List X) → length values ≡ n → length items ≡ n → take n (values ++ drop (length values) items) ≡ values
written_back n values items size as_many =
    ap (λ l. take n (values ++ l)) (drop_all (length values) items (omega (arith, size, as_many)))
    ∙ (ap (take n) (append-nil values) ∙ take_all n values (omega (arith, size)))
