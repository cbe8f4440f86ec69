-- SPDX-License-Identifier: MIT
-- Events are kept with the newest at the end, and defined with the newest first.
use Rattle.std.proofs.Common.{◌≡◌, ℕ, ◌+◌, ◌<◌, List, [], ◌∷◌, ◌++◌, length, reverse, take, drop, get_or, sym, ap, ◌∙◌}
use Rattle.std.proofs.lemmas.List.{reverse-append, take_more, drop_more, take-append-drop}

pub reverse-push : {X : Type 0} (xs : List X) (x : X) → reverse (xs ++ x ∷ []) ≡ x ∷ reverse xs
reverse-push xs x = reverse-append xs (x ∷ [])

-- the next event stands in front of those behind a walk
pub reverse_more : {X : Type 0} (xs : List X) (i : ℕ) (d : X) → i < length xs → reverse (take (i + 1) xs) ≡ get_or xs i d ∷ reverse (take i xs)
reverse_more xs i d less = ap reverse (take_more xs i d less) ∙ reverse-push (take i xs) (get_or xs i d)

-- a list is what stands before a place, what stands there, and what stands behind
pub split_at : {X : Type 0} (xs : List X) (i : ℕ) (d : X) → i < length xs → xs ≡ take i xs ++ get_or xs i d ∷ drop (i + 1) xs
split_at xs i d less = sym (take-append-drop i xs) ∙ ap (λ behind. take i xs ++ behind) (drop_more xs i d less)
