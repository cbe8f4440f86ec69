-- SPDX-License-Identifier: MIT
-- Octets are the wire form of a name, or they have one first fault, and never both.
use Rattle.std.proofs.Common.{◌≡◌, ◌⊎◌, ℕ, zero, suc, ◌+◌, ◌-◌, ◌≤◌, true, false, List, [], ◌∷◌, ◌++◌, length, take, drop, Option, Some, None, refl, sym, ap, ◌∙◌, arith, inl, inr, append_assoc, length-append, if◌then◌else◌, ◌==◌, ⊎_elim}
use Rattle.std.specs.List.{AllByRecursion}
use Rattle.std.specs.Prelude.{nat_lt}
use Rattle.std.proofs.lemmas.Bool.{cases_lt}
use Rattle.std.proofs.lemmas.Bool.Decides.{nat_tests}
use Rattle.std.proofs.lemmas.List.{take-append-drop, length-take, length-drop}
use Rattle.std.proofs.Math.Seq.{drop-append_seam}
use Rattle.rrc_name.specs.declared.fault.WireNameFault.{WireNameFault}
use Rattle.rrc_name.specs.declared.fault.WireNameFault.TheVariants.{Short, LabelTooLong, NameTooLong, LeftOver}
use Rattle.rrc_name.specs.Wire.{wire_of, front_of, labels_of, IsLabel, IsWireForm}
use Rattle.rrc_name.specs.WireFault.{IsFaultyBehind, no_length, left_over, label_too_long, name_too_long, cut_off, LabelStands, IsFirstFaultOfWire, OneFormOrFault}
use Rattle.rrc_name.proofs.WireForms.{wire_of-front}
use Rattle.rrc_name.proofs.WireReading.{IsRead, nothing_read, length-front, label_read, end_read, fault_read, read_within}

abbrev end_fault : List ℕ → Option WireNameFault
end_fault [] = None
end_fault (octet ∷ octets) = Some LeftOver

-- the fault that is met, reading on behind so many octets
abbrev fault_from : ℕ → ℕ → List ℕ → Option WireNameFault
fault_from zero before octets = Some Short
fault_from (suc most) before [] = Some Short
fault_from (suc most) before (size ∷ octets) =
    if size == 0 then end_fault octets
    else if nat_lt 63 size then Some LabelTooLong
    else if nat_lt 255 (before + size + 2) then Some NameTooLong
    else if nat_lt (length octets) size then Some Short
    else fault_from most (before + size + 1) (drop size octets)

few_labels : (labels : List (List ℕ)) → length labels ≤ length (front_of labels)
few_labels [] = omega arith
few_labels (label ∷ labels) = omega (arith, few_labels labels, length-append label (front_of labels))

-- no fault is met within a label that has room
past_label : (most before : ℕ) (label behind : List ℕ) → IsLabel label → before + length label + 2 ≤ 255
    → fault_from (suc most) before (length label ∷ (label ++ behind)) ≡ fault_from most (before + length label + 1) behind
past_label most before label behind is room =
    let some : (length label == 0) ≡ false = grind (arith, nat_tests, is.some) in
    let few : nat_lt 63 (length label) ≡ false = grind (arith, nat_tests, is.few) in
    let fits : nat_lt 255 (before + length label + 2) ≡ false = grind (arith, nat_tests) in
    let size = length-append label behind in
    let within : nat_lt (length (label ++ behind)) (length label) ≡ false = grind (arith, nat_tests, size) in
    rw (some, few, fits, within, drop-append_seam) refl

-- nor within labels that have
past_labels : (labels : List (List ℕ)) (fuel more before : ℕ) (rest : List ℕ) → fuel ≡ length labels + suc more → AllByRecursion IsLabel labels
    → before + length (front_of labels) + 1 ≤ 255 → fault_from fuel before (front_of labels ++ rest) ≡ fault_from (suc more) (before + length (front_of labels)) rest
past_labels [] fuel more before rest enough all room =
    let same : fuel ≡ suc more = omega arith in
    let none : before ≡ before + length {A = ℕ} [] = omega arith in
    ap (λ f. fault_from f before rest) same ∙ ap (λ b. fault_from (suc more) b rest) none
past_labels (label ∷ labels) zero more before rest enough all room = absurd (omega arith)
past_labels (label ∷ labels) (suc most) more before rest enough all room =
    let size = length-append label (front_of labels) in
    let one : before + length label + 2 ≤ 255 = omega (arith, size) in
    let sums : before + length label + 1 + length (front_of labels) ≡ before + length (front_of (label ∷ labels)) = omega (arith, size) in
    ap (λ o. fault_from (suc most) before (length label ∷ o)) (append_assoc label (front_of labels) rest)
    ∙ (past_label most before label (front_of labels ++ rest) all.0 one
    ∙ (past_labels labels most more (before + length label + 1) rest (omega arith) all.1 (omega (arith, size))
    ∙ ap (λ b. fault_from (suc more) b rest) sums))

fault_is_met : (more before : ℕ) (rest : List ℕ) (fault : WireNameFault) → IsFaultyBehind before rest fault → fault_from (suc more) before rest ≡ Some fault
fault_is_met more before rest fault no_length = refl
fault_is_met more before rest fault left_over = refl
fault_is_met more before rest fault (label_too_long {size = size} above) =
    let some : (size == 0) ≡ false = grind (arith, nat_tests) in
    let over : nat_lt 63 size ≡ true = grind (arith, nat_tests) in
    rw (some, over) refl
fault_is_met more before rest fault (name_too_long {size = size} is few over) =
    let some : (size == 0) ≡ false = grind (arith, nat_tests) in
    let short : nat_lt 63 size ≡ false = grind (arith, nat_tests) in
    let many : nat_lt 255 (before + size + 2) ≡ true = grind (arith, nat_tests) in
    rw (some, short, many) refl
fault_is_met more before rest fault (cut_off {size = size} {octets = octets} is few room less) =
    let some : (size == 0) ≡ false = grind (arith, nat_tests) in
    let short : nat_lt 63 size ≡ false = grind (arith, nat_tests) in
    let fits : nat_lt 255 (before + size + 2) ≡ false = grind (arith, nat_tests) in
    let cut_short : nat_lt (length octets) size ≡ true = grind (arith, nat_tests) in
    rw (some, short, fits, cut_short) refl

abbrev met : List ℕ → Option WireNameFault
met octets = fault_from (suc (length octets)) 0 octets

met_behind : (octets : List ℕ) (labels : List (List ℕ)) (rest : List ℕ) → octets ≡ front_of labels ++ rest → AllByRecursion IsLabel labels → length (wire_of labels) ≤ 255
    → met octets ≡ fault_from (suc (length octets - length labels)) (length (front_of labels)) rest
met_behind octets labels rest whole all short =
    let size : length octets ≡ length (front_of labels) + length rest = ap length whole ∙ length-append (front_of labels) rest in
    let none : 0 + length (front_of labels) ≡ length (front_of labels) = omega arith in
    ap (λ o. fault_from (suc (length octets)) 0 o) whole
    ∙ (past_labels labels (suc (length octets)) (length octets - length labels) 0 rest (omega (arith, few_labels labels)) all (omega (arith, length-front labels))
    ∙ ap (λ b. fault_from (suc (length octets - length labels)) b rest) none)

first_is_met : (octets : List ℕ) (fault : WireNameFault) → IsFirstFaultOfWire octets fault → met octets ≡ Some fault
first_is_met octets fault is =
    met_behind octets is.labels is.rest is.whole is.make_name.all is.make_name.short
    ∙ fault_is_met (length octets - length is.labels) (length (front_of is.labels)) is.rest fault is.faulty

none_is_met : (octets : List ℕ) → IsWireForm octets → met octets ≡ None
none_is_met octets is =
    met_behind octets (labels_of octets) (0 ∷ []) (sym is.whole ∙ wire_of-front (labels_of octets)) is.labels (omega (arith, ap length is.whole, is.short))

abbrev FormOrFault : List ℕ → Type 0
FormOrFault octets = IsWireForm octets ⊎ ((fault : WireNameFault) × IsFirstFaultOfWire octets fault)

faulty_next : (octets rest : List ℕ) (before : ℕ) (fault : WireNameFault) → IsRead octets rest → before + length rest ≡ length octets → IsFaultyBehind before rest fault → FormOrFault octets
faulty_next octets rest before fault read many faulty = inr (fault, fault_read octets rest before fault read many faulty)

label_next : (size : ℕ) (behind : List ℕ) (before : ℕ) → 1 ≤ size → size ≤ 63 → before + size + 2 ≤ 255 → size ≤ length behind → LabelStands before (size ∷ behind) (drop size behind)
label_next size behind before some few room within =
    let many : length (take size behind) ≡ size = omega (arith, length-take size behind) in
    record {
      label = take size behind;
      parts = ap (λ n. n ∷ behind) (sym many) ∙ ap (λ o. length (take size behind) ∷ o) (sym (take-append-drop size behind));
      some = omega arith;
      few = omega arith;
      room = omega arith;
    }

-- reading from the left leads to the zero octet, or to a fault
finds : (most : ℕ) (octets rest : List ℕ) → length rest ≤ most → IsRead octets rest → FormOrFault octets
finds most octets [] fits read = faulty_next octets [] (length octets) Short read (omega arith) no_length
finds most octets (zero ∷ []) fits read = inl (end_read octets read)
finds most octets (zero ∷ octet ∷ behind) fits read =
    faulty_next octets (0 ∷ octet ∷ behind) (length octets - length (0 ∷ octet ∷ behind)) LeftOver read (omega (arith, read_within octets (0 ∷ octet ∷ behind) read)) left_over
finds zero octets (suc n ∷ behind) fits read = absurd (omega arith)
finds (suc most) octets (suc n ∷ behind) fits read = sized (suc n) (omega arith) (λ rest less. finds most octets rest less) fits read
  where
    sized : (size : ℕ) → 1 ≤ size → ((rest : List ℕ) → length rest ≤ most → IsRead octets rest → FormOrFault octets) → length (size ∷ behind) ≤ suc most → IsRead octets (size ∷ behind) → FormOrFault octets
    sized size some later fits read =
        let before = length octets - length (size ∷ behind) in
        let many : before + length (size ∷ behind) ≡ length octets = omega (arith, read_within octets (size ∷ behind) read) in
        ⊎_elim (λ above. faulty_next octets (size ∷ behind) before LabelTooLong read many (label_too_long above))
        (λ few. ⊎_elim (λ over. faulty_next octets (size ∷ behind) before NameTooLong read many (name_too_long some few over))
        (λ room. ⊎_elim (λ less. faulty_next octets (size ∷ behind) before Short read many (cut_off some few room less))
        (λ within. later (drop size behind) (omega (arith, length-drop size behind)) (label_read octets (size ∷ behind) (drop size behind) before read many (label_next size behind before some few room within)))
        (cases_lt (length behind) size)) (cases_lt 255 (before + size + 2))) (cases_lt 63 size)

abbrev fault_or : WireNameFault → Option WireNameFault → WireNameFault
fault_or fault None = fault
fault_or fault (Some found) = found

pub form_or_fault : OneFormOrFault
form_or_fault octets small = record {
  either = finds (length octets) octets octets (omega arith) (nothing_read octets small);
  one_fault = λ fault other is also. ap (fault_or fault) (sym (first_is_met octets fault is) ∙ first_is_met octets other also);
  not_both = λ fault form is. never fault (sym (none_is_met octets form) ∙ first_is_met octets fault is);
}
  where
    never : (fault : WireNameFault) → None ≡ Some fault → ⊥
    never fault e = cc
