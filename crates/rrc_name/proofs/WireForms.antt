-- SPDX-License-Identifier: MIT
-- Whole labels in wire form make a name.
use Rattle.std.proofs.Common.{◌≡◌, ℕ, zero, suc, ◌-◌, ◌<◌, ◌≤◌, List, [], ◌∷◌, ◌++◌, length, map, refl, sym, ap, subst, ◌∙◌, arith, append_assoc, length-append, get_or, take, drop, false, ◌==◌}
use Rattle.std.specs.List.{AllByRecursion}
use Rattle.std.proofs.lemmas.Bool.Decides.{nat_tests}
use Rattle.std.proofs.lemmas.Grind.{common_steps}
use Rattle.std.proofs.lemmas.List.{append-nil, length-map, map-append}
use Rattle.std.proofs.Math.Seq.{take-append_seam, drop-append_seam}
use Rattle.std.specs.Char.{to_ascii_lowercase}
use Rattle.rrc_name.specs.Wire.{wire_of, front_of, labels_within, labels_of, IsLabel, IsWireForm, BeginsWith, folded}

pub wire_of-front : (labels : List (List ℕ)) → wire_of labels ≡ front_of labels ++ 0 ∷ []
wire_of-front [] = refl
wire_of-front (label ∷ labels) =
    ap (λ rest. length label ∷ rest) (ap (λ rest. label ++ rest) (wire_of-front labels) ∙ sym (append_assoc label (front_of labels) (0 ∷ [])))

pub front_of-push : (labels : List (List ℕ)) (label : List ℕ) → front_of (labels ++ label ∷ []) ≡ front_of labels ++ length label ∷ label
front_of-push [] label = ap (λ rest. length label ∷ rest) (append-nil label)
front_of-push (first ∷ labels) label =
    ap (λ rest. length first ∷ rest) (ap (λ rest. first ++ rest) (front_of-push labels label) ∙ sym (append_assoc first (front_of labels) (length label ∷ label)))

pub all_labels-push : (labels : List (List ℕ)) (label : List ℕ) → AllByRecursion IsLabel labels → IsLabel label → AllByRecursion IsLabel (labels ++ label ∷ [])
all_labels-push [] label all last = (last, tt)
all_labels-push (first ∷ labels) label all last = (all.0, all_labels-push labels label all.1 last)

-- the labels are read again from the octets that they make
pub labels_within-wire_of : (labels : List (List ℕ)) (most : ℕ) → AllByRecursion IsLabel labels → length (wire_of labels) ≤ most → labels_within most (wire_of labels) ≡ labels
unfolding labels_within
labels_within-wire_of [] zero all fits = refl
labels_within-wire_of [] (suc most) all fits = refl
labels_within-wire_of (label ∷ labels) zero all fits = absurd (omega arith)
labels_within-wire_of (label ∷ labels) (suc most) all fits =
    let size : (length label == 0) ≡ false = grind (arith, nat_tests, all.0.some) in
    let less : length (wire_of labels) ≤ most = omega (arith, length-append label (wire_of labels)) in
    rw (size, take-append_seam, drop-append_seam) (ap (λ rest. label ∷ rest) (labels_within-wire_of labels most all.1 less))

pub wire_form_of : (labels : List (List ℕ)) → AllByRecursion IsLabel labels → length (wire_of labels) ≤ 255 → IsWireForm (wire_of labels)
wire_form_of labels all short =
    let same : labels_of (wire_of labels) ≡ labels = labels_within-wire_of labels (length (wire_of labels)) all (omega arith) in
    record { whole = ap wire_of same; labels = subst (AllByRecursion IsLabel) (sym same) all; short = short }

-- a length octet has no case
pub lowered-length : (label : List ℕ) → IsLabel label → to_ascii_lowercase (length label) ≡ length label
lowered-length label is = grind (arith, nat_tests, is.few)

pub folded-wire_of : (labels : List (List ℕ)) → AllByRecursion IsLabel labels → folded (wire_of labels) ≡ wire_of (map folded labels)
folded-wire_of [] all = refl
folded-wire_of (label ∷ labels) all =
    let size : to_ascii_lowercase (length label) ≡ length (folded label) = lowered-length label all.0 ∙ sym (length-map label to_ascii_lowercase) in
    let rest : folded (label ++ wire_of labels) ≡ folded label ++ wire_of (map folded labels) =
    map-append to_ascii_lowercase label (wire_of labels) ∙ ap (λ octets. folded label ++ octets) (folded-wire_of labels all.1) in
    cc

pub lowered-octet : (octet : ℕ) → octet < 256 → to_ascii_lowercase octet < 256
lowered-octet octet small = grind (arith, nat_tests)

pub folded-octets : (label : List ℕ) → AllByRecursion (λ octet. octet < 256) label → AllByRecursion (λ octet. octet < 256) (folded label)
folded-octets [] all = tt
folded-octets (octet ∷ label) all = (lowered-octet octet all.0, folded-octets label all.1)

pub folded-labels : (labels : List (List ℕ)) → AllByRecursion IsLabel labels → AllByRecursion IsLabel (map folded labels)
folded-labels [] all = tt
folded-labels (label ∷ labels) all =
    let size = length-map label to_ascii_lowercase in (
      record { some = omega (arith, all.0.some, size); few = omega (arith, all.0.few, size); octets = folded-octets label all.0.octets },
      folded-labels labels all.1,
    )

pub folded-IsWireForm : (name : List ℕ) → IsWireForm name → IsWireForm (folded name)
folded-IsWireForm name is =
    let labels = labels_of name in
    let same : folded name ≡ wire_of (map folded labels) = ap folded (sym is.whole) ∙ folded-wire_of labels is.labels in
    let short : length (wire_of (map folded labels)) ≤ 255 = omega (arith, ap length same, length-map name to_ascii_lowercase, is.short) in
    subst IsWireForm (sym same) (wire_form_of (map folded labels) (folded-labels labels is.labels) short)

-- where a name begins with a label, the name behind it has the other labels
pub begins_with_label : (label : List ℕ) (labels : List (List ℕ)) → AllByRecursion IsLabel (label ∷ labels) → length (wire_of (label ∷ labels)) ≤ 255
    → BeginsWith (wire_of (label ∷ labels)) label (wire_of labels)
begins_with_label label labels all short =
    let behind : length (wire_of labels) ≤ 255 = omega (arith, length-append label (wire_of labels)) in
    let whole : labels_of (wire_of (label ∷ labels)) ≡ label ∷ labels = labels_within-wire_of (label ∷ labels) (length (wire_of (label ∷ labels))) all (omega arith) in
    let others : labels_of (wire_of labels) ≡ labels = labels_within-wire_of labels (length (wire_of labels)) all.1 (omega arith) in
    record {
      octets = refl;
      labels = whole ∙ ap (λ rest. label ∷ rest) (sym others);
      is_label = all.0;
      is_name = wire_form_of labels all.1 behind;
    }

-- a name is the root, or begins with a label
pub data FirstOf (name : List ℕ) : Type 0 where
  root_first : name ≡ 0 ∷ [] → labels_of name ≡ [] → FirstOf name
  label_first : (label behind : List ℕ) → BeginsWith name label behind → FirstOf name

pub first_of_labels : (labels : List (List ℕ)) → AllByRecursion IsLabel labels → length (wire_of labels) ≤ 255 → FirstOf (wire_of labels)
first_of_labels [] all short = root_first refl (labels_within-wire_of [] 1 tt (omega arith))
first_of_labels (label ∷ labels) all short = label_first label (wire_of labels) (begins_with_label label labels all short)

pub first_of_name : (name : List ℕ) → IsWireForm name → FirstOf name
first_of_name name is = subst FirstOf is.whole (first_of_labels (labels_of name) is.labels (omega (arith, ap length is.whole, is.short)))

-- what the first octet of a name says of the others
pub record Parted (name : List ℕ) : Type 0 where
  pub some : 0 < length name
  pub root : get_or name 0 0 ≡ 0 → labels_of name ≡ []
  pub fits : get_or name 0 0 ≤ length (drop 1 name)
  pub label : (get_or name 0 0 ≡ 0 → ⊥) → BeginsWith name (take (get_or name 0 0) (drop 1 name)) (drop (get_or name 0 0) (drop 1 name))

parted_label : (label behind : List ℕ) → BeginsWith (length label ∷ (label ++ behind)) label behind → Parted (length label ∷ (label ++ behind))
parted_label label behind begins =
    record {
      some = omega arith;
      root = λ none. absurd (omega (arith, begins.is_label.some));
      fits = omega (arith, length-append label behind);
      label = λ _. rw (take-append_seam, drop-append_seam) begins;
    }

pub parted_first : (name : List ℕ) → FirstOf name → Parted name
parted_first name (root_first octets none) =
    subst Parted (sym octets) (record { some = omega arith; root = λ _. subst (λ n. labels_of n ≡ []) octets none; fits = omega arith; label = λ some. absurd (some refl) })
parted_first name (label_first label behind begins) =
    subst Parted (sym begins.octets) (parted_label label behind (subst (λ n. BeginsWith n label behind) begins.octets begins))

pub parted : (name : List ℕ) → IsWireForm name → Parted name
parted name is = parted_first name (first_of_name name is)

-- the octets behind the first, as a slice has them
pub behind_first : (name : List ℕ) → take (length name - 1) (drop 1 name) ≡ drop 1 name
behind_first [] = refl
behind_first (size ∷ octets) = grind (arith, common_steps)
