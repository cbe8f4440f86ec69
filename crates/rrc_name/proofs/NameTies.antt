-- SPDX-License-Identifier: MIT
-- The canonical order ties exactly where names are the same but for the case of letters.
use Rattle.std.proofs.Common.{◌≡◌, ℕ, List, [], ◌∷◌, ◌++◌, map, reverse, refl, sym, ap, subst, ◌∙◌}
use Rattle.std.specs.declared.cmp.Ordering.{Ordering}
use Rattle.std.specs.declared.cmp.Ordering.TheVariants.{Less, Equal, Greater}
use Rattle.std.specs.Ordering.{nat_cmp, ordering_then, is_eq}
use Rattle.std.specs.Cmp.{unsigned_ties}
use Rattle.std.specs.Cmp.Lexicographic.{pointwise, pointwise_decides, bytes_decides, slice_cmp, lists_ties, lists_total}
use Rattle.std.specs.Prelude.{nat_eq}
use Rattle.std.proofs.lemmas.Cmp.{nat_list_cmp_total, tied_itself}
use Rattle.std.proofs.lemmas.List.{reverse-append, reverse-reverse, map-append}
use Rattle.rrc_name.specs.Wire.{labels_of, IsWireForm, IsSameName, folded}
use Rattle.rrc_name.specs.Key.{KeyOf, IsFolded, order_in_name, key_order}
use Rattle.rrc_name.specs.Order.{label_order, canonical_order, folded_labels}
use Rattle.rrc_name.proofs.LabelOrder.{folded-from_labels, labels-from_folded}

abbrev octets_order : List (List ℕ) → List (List ℕ) → Ordering
octets_order = slice_cmp (slice_cmp nat_cmp)

slice_cmp-folded : (labels others : List (List ℕ)) → slice_cmp label_order labels others ≡ octets_order (map folded labels) (map folded others)
slice_cmp-folded [] [] = refl
slice_cmp-folded [] (other ∷ others) = refl
slice_cmp-folded (label ∷ labels) [] = refl
slice_cmp-folded (label ∷ labels) (other ∷ others) = ap (λ rest. ordering_then (label_order label other) rest) (slice_cmp-folded labels others)

pub map-reverse : (labels : List (List ℕ)) → map folded (reverse labels) ≡ reverse (map folded labels)
map-reverse [] = refl
map-reverse (label ∷ labels) =
    ap (map folded) (reverse-append (label ∷ []) labels)
    ∙ (map-append folded (reverse labels) (label ∷ [])
    ∙ (ap (λ rest. rest ++ folded label ∷ []) (map-reverse labels) ∙ sym (reverse-append (folded label ∷ []) (map folded labels))))

-- the order is that of the labels with letters lowered, from the rightmost
pub canonical_order-folded : (name other : List ℕ) → canonical_order name other ≡ octets_order (reverse (folded_labels name)) (reverse (folded_labels other))
canonical_order-folded name other =
    slice_cmp-folded (reverse (labels_of name)) (reverse (labels_of other))
    ∙ (ap (λ l. octets_order l (map folded (reverse (labels_of other)))) (map-reverse (labels_of name))
    ∙ ap (λ l. octets_order (reverse (folded_labels name)) l) (map-reverse (labels_of other)))

octets_order-same : (labels others : List (List ℕ)) → octets_order labels others ≡ Equal → labels ≡ others
octets_order-same labels others tied =
    (pointwise_decides {E = pointwise nat_eq} bytes_decides labels others).0
    (lists_ties (slice_cmp nat_cmp) (lists_ties nat_cmp unsigned_ties) labels others ∙ ap is_eq tied)

pub same-from_tie : (name other : List ℕ) → IsWireForm name → IsWireForm other → canonical_order name other ≡ Equal → IsSameName name other
same-from_tie name other is is_other tied =
    let turned : reverse (folded_labels name) ≡ reverse (folded_labels other) = octets_order-same _ _ (sym (canonical_order-folded name other) ∙ tied) in
    folded-from_labels name other is is_other
    (sym (reverse-reverse (folded_labels name)) ∙ (ap reverse turned ∙ reverse-reverse (folded_labels other)))

pub tie-from_same : (name other : List ℕ) → IsWireForm name → IsWireForm other → IsSameName name other → canonical_order name other ≡ Equal
tie-from_same name other is is_other same =
    canonical_order-folded name other
    ∙ (ap (λ l. octets_order (reverse l) (reverse (folded_labels other))) (labels-from_folded name other is is_other same)
    ∙ tied_itself (lists_total nat_list_cmp_total) (reverse (folded_labels other)))

-- between folded names that tie, the octets tie too
pub octets_tie : (name other : List ℕ) → IsWireForm name → IsWireForm other → IsFolded name → IsFolded other → canonical_order name other ≡ Equal
    → slice_cmp nat_cmp name other ≡ Equal
octets_tie name other is is_other low low_other tied =
    let same : name ≡ other = sym low ∙ (same-from_tie name other is is_other tied ∙ low_other) in
    subst (λ n. slice_cmp nat_cmp name n ≡ Equal) same (tied_itself nat_list_cmp_total name)

then-tied : (order behind rest : Ordering) → (order ≡ Equal → behind ≡ Equal) → ordering_then order rest ≡ ordering_then order (ordering_then behind rest)
then-tied Less behind rest h = refl
then-tied Greater behind rest h = refl
then-tied Equal behind rest h = ap (λ o. ordering_then o rest) (sym (h refl))

-- of keys, the names' canonical order, the classes' and the slots' are enough
pub key_order-folded : (a b : KeyOf) → IsWireForm a.name → IsWireForm b.name → IsFolded a.name → IsFolded b.name
    → ordering_then (canonical_order a.name b.name) (order_in_name a b) ≡ key_order a b
key_order-folded a b is is_b low low_b =
    then-tied (canonical_order a.name b.name) (slice_cmp nat_cmp a.name b.name) (order_in_name a b) (octets_tie a.name b.name is is_b low low_b)
