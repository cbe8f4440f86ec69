-- SPDX-License-Identifier: MIT
-- Names by their labels, read from the left.
use Rattle.std.proofs.Common.{◌≡◌, ℕ, ◌-◌, ◌≤◌, Bool, List, [], ◌∷◌, ◌++◌, length, take, drop, map, reverse, refl, sym, ap, ◌∙◌, arith, append_assoc, length-append, Decides, ◌⊎◌, inl, inr, ⊎_elim}
use Rattle.std.specs.declared.cmp.Ordering.{Ordering}
use Rattle.std.specs.Ordering.{nat_cmp, ordering_then}
use Rattle.std.specs.Cmp.Lexicographic.{pointwise, pointwise_decides, bytes_decides, slice_cmp}
use Rattle.std.specs.Prelude.{nat_eq}
use Rattle.std.proofs.lemmas.Bool.Decides.{nat_tests}
use Rattle.std.proofs.lemmas.List.{length-map, length-drop, length-take, length-reverse, reverse-append, take-append-drop, drop-map}
use Rattle.std.proofs.lemmas.List.Prefix.{end_rest}
use Rattle.std.proofs.lemmas.Bool.{cases_lt}
use Rattle.std.proofs.lemmas.Cmp.{nat_list_cmp_total, tied_itself}
use Rattle.rrc_name.specs.Wire.{wire_of, labels_of, IsWireForm, folded}
use Rattle.rrc_name.specs.Order.{label_order, outweighed, folded_labels, is_at_or_below, IsAtOrBelow}
use Rattle.rrc_name.proofs.WireForms.{labels_within-wire_of, folded-wire_of, folded-labels}

pub length-labels : (labels : List (List ℕ)) → length labels ≤ length (wire_of labels)
length-labels [] = omega arith
length-labels (label ∷ labels) = omega (arith, length-labels labels, length-append label (wire_of labels))

-- a name has fewer labels than octets
pub length-labels_of : (name : List ℕ) → IsWireForm name → length (labels_of name) ≤ 255
length-labels_of name is = omega (arith, length-labels (labels_of name), ap length is.whole, is.short)

reverse_before : (label : List ℕ) (labels before : List (List ℕ)) → reverse (label ∷ labels) ++ before ≡ reverse labels ++ label ∷ before
reverse_before label labels before = ap (λ rest. rest ++ before) (reverse-append (label ∷ []) labels) ∙ append_assoc (reverse labels) (label ∷ []) before

-- labels to the right outweigh those before them
pub outweighed-reverse : (labels others before before_others : List (List ℕ)) → length labels ≡ length others
    → outweighed (slice_cmp label_order before before_others) labels others ≡ slice_cmp label_order (reverse labels ++ before) (reverse others ++ before_others)
outweighed-reverse [] [] before before_others as_many = refl
outweighed-reverse [] (other ∷ others) before before_others as_many = absurd (omega arith)
outweighed-reverse (label ∷ labels) [] before before_others as_many = absurd (omega arith)
outweighed-reverse (label ∷ labels) (other ∷ others) before before_others as_many =
    rw (reverse_before label labels before, reverse_before other others before_others)
    (outweighed-reverse labels others (label ∷ before) (other ∷ before_others) (omega arith))

-- labels that are alike weigh nothing
pub outweighed-same : (order : Ordering) (labels : List (List ℕ)) → outweighed order labels labels ≡ order
outweighed-same order [] = refl
outweighed-same order (label ∷ labels) =
    ap (λ tie. outweighed (ordering_then tie order) labels labels) (tied_itself nat_list_cmp_total (folded label)) ∙ outweighed-same order labels

-- where one name has no labels before those that are compared, the number of the other's decides
pub slice_cmp-none_before : (before before_others : List (List ℕ)) → (length before ≡ 0) ⊎ (length before_others ≡ 0)
    → slice_cmp label_order before before_others ≡ nat_cmp (length before) (length before_others)
slice_cmp-none_before [] [] one = refl
slice_cmp-none_before [] (other ∷ others) one = grind (arith, nat_tests)
slice_cmp-none_before (label ∷ labels) [] one = grind (arith, nat_tests)
slice_cmp-none_before (label ∷ labels) (other ∷ others) one = ⊎_elim (λ h. absurd (omega (arith, h))) (λ h. absurd (omega (arith, h))) one

nat_cmp-differences : (m n : ℕ) → nat_cmp (m - n) (n - m) ≡ nat_cmp m n
nat_cmp-differences m n = grind (arith, nat_tests)

one_is_none : (m n : ℕ) → (m - n ≡ 0) ⊎ (n - m ≡ 0)
one_is_none m n = ⊎_elim (λ less. inl (omega arith)) (λ more. inr (omega arith)) (cases_lt m n)

-- the last labels of both, as many as the fewer, and then the number of labels
pub outweighed-canonical : (labels others : List (List ℕ))
    → outweighed (nat_cmp (length labels) (length others)) (drop (length labels - length others) labels) (drop (length others - length labels) others)
    ≡ slice_cmp label_order (reverse labels) (reverse others)
outweighed-canonical labels others =
    let m = length labels - length others in
    let n = length others - length labels in
    let before = reverse (take m labels) in
    let before_others = reverse (take n others) in
    let many : length before ≡ m = grind (arith, length-reverse, length-take) in
    let many_others : length before_others ≡ n = grind (arith, length-reverse, length-take) in
    let one : (length before ≡ 0) ⊎ (length before_others ≡ 0) = ⊎_elim (λ none. inl (many ∙ none)) (λ none. inr (many_others ∙ none)) (one_is_none (length labels) (length others)) in
    let order : slice_cmp label_order before before_others ≡ nat_cmp (length labels) (length others) =
    slice_cmp-none_before before before_others one ∙ (ap (λ k. nat_cmp k (length before_others)) many ∙ (ap (λ k. nat_cmp m k) many_others ∙ nat_cmp-differences (length labels) (length others))) in
    let as_many : length (drop m labels) ≡ length (drop n others) = omega (arith, length-drop m labels, length-drop n others) in
    let left : reverse (drop m labels) ++ before ≡ reverse labels = sym (reverse-append (take m labels) (drop m labels)) ∙ ap reverse (take-append-drop m labels) in
    let right : reverse (drop n others) ++ before_others ≡ reverse others = sym (reverse-append (take n others) (drop n others)) ∙ ap reverse (take-append-drop n others) in
    ap (λ o. outweighed o (drop m labels) (drop n others)) (sym order)
    ∙ (outweighed-reverse (drop m labels) (drop n others) before before_others as_many
    ∙ (ap (λ l. slice_cmp label_order l (reverse (drop n others) ++ before_others)) left ∙ ap (λ l. slice_cmp label_order (reverse labels) l) right))

-- names with the same labels, but for the case of letters, are the same but for that
pub labels_of-folded : (name : List ℕ) → IsWireForm name → labels_of (folded name) ≡ folded_labels name
labels_of-folded name is =
    let low = folded_labels name in
    let same : folded name ≡ wire_of low = ap folded (sym is.whole) ∙ folded-wire_of (labels_of name) is.labels in
    let short : length (wire_of low) ≤ length (folded name) = omega (arith, ap length same) in
    ap labels_of same ∙ labels_within-wire_of low (length (wire_of low)) (folded-labels (labels_of name) is.labels) (omega arith)

pub folded-from_labels : (name other : List ℕ) → IsWireForm name → IsWireForm other → folded_labels name ≡ folded_labels other → folded name ≡ folded other
folded-from_labels name other is is_other same =
    ap folded (sym is.whole) ∙ (folded-wire_of (labels_of name) is.labels
    ∙ (ap wire_of same ∙ (sym (folded-wire_of (labels_of other) is_other.labels) ∙ ap folded is_other.whole)))

pub labels-from_folded : (name other : List ℕ) → IsWireForm name → IsWireForm other → folded name ≡ folded other → folded_labels name ≡ folded_labels other
labels-from_folded name other is is_other same = sym (labels_of-folded name is) ∙ (ap labels_of same ∙ labels_of-folded other is_other)

-- what the test of labels at the end decides
pub is_at_or_below-decides : (name zone : List ℕ) → Decides (is_at_or_below name zone) (IsAtOrBelow name zone)
is_at_or_below-decides name zone =
    let labels = folded_labels name in
    let ends = folded_labels zone in
    let k = length labels - length ends in
    let decides = pointwise_decides {E = pointwise nat_eq} bytes_decides ends (drop k labels) in (
      λ test. record { before = take k labels; labels = sym (ap (λ rest. take k labels ++ rest) (decides.0 test) ∙ take-append-drop k labels) },
      λ below. decides.1 (sym (at_end below.before ends labels below.labels)),
    )
  where
    at_end : (before ends labels : List (List ℕ)) → labels ≡ before ++ ends → drop (length labels - length ends) labels ≡ ends
    at_end before ends labels e = end_rest labels ends before e

-- a test of a name's last labels, as many as the zone has, tells whether the name is at or below the zone
pub last_labels-Decides : (name behind zone : List ℕ) → IsWireForm behind → IsWireForm zone
    → labels_of behind ≡ drop (length (labels_of name) - length (labels_of zone)) (labels_of name)
    → (test : Bool) → Decides test (folded behind ≡ folded zone) → Decides test (IsAtOrBelow name zone)
last_labels-Decides name behind zone is is_zone labels test decides =
    let k = length (labels_of name) - length (labels_of zone) in
    let low = folded_labels name in
    let lowered : folded_labels behind ≡ drop k low = ap (map folded) labels ∙ sym (drop-map folded k (labels_of name)) in
    let many : length low - length (folded_labels zone) ≡ k = omega (arith, length-map (labels_of name) folded, length-map (labels_of zone) folded) in (
      λ true_test. record {
        before = take k low;
        labels = sym (take-append-drop k low) ∙ ap (λ rest. take k low ++ rest) (sym lowered ∙ labels-from_folded behind zone is is_zone (decides.0 true_test));
      },
      λ below. decides.1 (folded-from_labels behind zone is is_zone
          (lowered ∙ (ap (λ n. drop n low) (sym many) ∙ end_rest low (folded_labels zone) below.before below.labels))),
    )
