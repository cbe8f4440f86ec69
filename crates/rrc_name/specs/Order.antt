-- SPDX-License-Identifier: MIT
-- The canonical order of names (RFC 4034 6.1), and which names a zone holds.
use Rattle.std.specs.Prelude.{◌≡◌, ℕ, List, [], ◌∷◌, ◌++◌, Bool, map, reverse, nat_eq}
use Rattle.std.specs.declared.cmp.Ordering.{Ordering}
use Rattle.std.specs.Ordering.{nat_cmp, ordering_then}
use Rattle.std.specs.Cmp.Lexicographic.{pointwise, slice_cmp}
use Rattle.std.specs.List.{ends_with}
use Rattle.rrc_name.specs.Wire.{labels_of, folded}

-- labels by their octets from the left, with letters lowered; an absent octet comes first
abbrev pub label_order : List ℕ → List ℕ → Ordering
label_order a b = slice_cmp nat_cmp (folded a) (folded b)

-- names by their labels from the rightmost; an absent label comes first
abbrev pub canonical_order : List ℕ → List ℕ → Ordering
canonical_order a b = slice_cmp label_order (reverse (labels_of a)) (reverse (labels_of b))

-- the labels, with letters lowered
abbrev pub folded_labels : List ℕ → List (List ℕ)
folded_labels name = map folded (labels_of name)

-- the name is in the zone's subtree: its labels are some labels, and then the zone's, but for the case of letters (RFC 1034 3.1)
pub record IsAtOrBelow (name zone : List ℕ) : Type 0 where
  pub before : List (List ℕ)
  pub labels : folded_labels name ≡ before ++ folded_labels zone

-- whether a name is at or below a zone: its labels end with those of the zone, but for the case of letters
abbrev pub is_at_or_below : List ℕ → List ℕ → Bool
is_at_or_below name zone = ends_with (pointwise nat_eq) (folded_labels name) (folded_labels zone)

-- an order found so far, when the labels to the right are read: each outweighs those before it
abbrev pub outweighed : Ordering → List (List ℕ) → List (List ℕ) → Ordering
outweighed order [] others = order
outweighed order (label ∷ labels) [] = order
outweighed order (label ∷ labels) (other ∷ others) = outweighed (ordering_then (label_order label other) order) labels others
