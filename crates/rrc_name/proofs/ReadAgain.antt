-- SPDX-License-Identifier: MIT
-- What is printed of a name spells the name.
use Rattle.std.proofs.Common.{◌≡◌, ◌≢◌, ℕ, ◌<◌, ◌≤◌, Bool, true, false, List, [], ◌∷◌, length, refl, sym, ap, subst, arith, ◌==◌, ⊎_elim, inl, inr}
use Rattle.std.specs.List.{AllByRecursion, flat_map}
use Rattle.std.specs.Char.{is_ascii_graphic}
use Rattle.std.proofs.lemmas.Bool.Decides.{nat_tests, eqb_tells}
use Rattle.rrc_name.specs.Wire.{wire_of, labels_of, IsLabel}
use Rattle.rrc_name.specs.Text.{IsGraphic, SpellsOctet, itself, escaped, decimal, SpellsLabel, no_octet, octet_more, SpellsLabels, no_label, label_more, Spells, root, last_dot, decimal_of, spelling_of, dotted, text_of_labels, IsReadAgain}

abbrev IsSpelled : ℕ → Type 0
IsSpelled octet = SpellsOctet (spelling_of octet) octet

-- three decimal digits behind a backslash
spelled_decimal : (octet : ℕ) → octet < 256 → SpellsOctet (92 ∷ decimal_of octet) octet
spelled_decimal octet fits = decimal (omega arith) (omega arith) (omega arith) (omega arith) (omega arith)

graphic_is : (octet : ℕ) → is_ascii_graphic octet ≡ true → IsGraphic octet
graphic_is octet is = (grind (arith, nat_tests), grind (arith, nat_tests))

spelled_other : (octet : ℕ) → octet < 256 → ((octet == 46) ≡ false) × (octet ≢ 46) → ((octet == 92) ≡ false) × (octet ≢ 92)
    → (graphic : Bool) → is_ascii_graphic octet ≡ graphic → IsSpelled octet
spelled_other octet fits no_dot no_backslash true is =
    let spelling : spelling_of octet ≡ octet ∷ [] = rw (no_dot.0, no_backslash.0, is) refl in
    subst (λ s. SpellsOctet s octet) (sym spelling) (itself (graphic_is octet is) no_dot.1 no_backslash.1)
spelled_other octet fits no_dot no_backslash false is =
    let spelling : spelling_of octet ≡ 92 ∷ decimal_of octet = rw (no_dot.0, no_backslash.0, is) refl in
    subst (λ s. SpellsOctet s octet) (sym spelling) (spelled_decimal octet fits)

-- each octet has its spelling
spelled_octet : (octet : ℕ) → octet < 256 → IsSpelled octet
spelled_octet octet fits =
    ⊎_elim (λ dot. subst IsSpelled (sym dot.1) (escaped (omega arith, omega arith) (inl (omega arith))))
    (λ no_dot. ⊎_elim (λ backslash. subst IsSpelled (sym backslash.1) (escaped (omega arith, omega arith) (inr (omega arith))))
    (λ no_backslash. spelled_other octet fits no_dot no_backslash (is_ascii_graphic octet) refl) (eqb_tells octet 92))
    (eqb_tells octet 46)

spelled_label : (label : List ℕ) → AllByRecursion (λ o. o < 256) label → SpellsLabel (flat_map spelling_of label) label
spelled_label [] all = no_octet
spelled_label (octet ∷ label) all = octet_more (spelled_octet octet all.0) (spelled_label label all.1)

spelled_labels : (labels : List (List ℕ)) → AllByRecursion IsLabel labels → SpellsLabels (dotted labels) labels
spelled_labels [] all = no_label
spelled_labels (label ∷ labels) all = label_more (spelled_label label all.0.octets) (spelled_labels labels all.1)

spelled_name : (labels : List (List ℕ)) → AllByRecursion IsLabel labels → length (wire_of labels) ≤ 255 → Spells (text_of_labels labels) (wire_of labels)
spelled_name [] all short = root
spelled_name (label ∷ labels) all short = last_dot (spelled_labels (label ∷ labels) all) (omega arith) (record { all = all; short = short })

-- the text of each name spells it
pub read_again : IsReadAgain
read_again name is = subst (Spells (text_of_labels (labels_of name))) is.whole (spelled_name (labels_of name) is.labels (omega (arith, ap length is.whole, is.short)))
