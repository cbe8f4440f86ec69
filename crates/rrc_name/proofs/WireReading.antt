-- SPDX-License-Identifier: MIT
-- Octets that should be the wire form of a name, read from the left.
use Rattle.std.proofs.Common.{◌≡◌, ◌≢◌, ℕ, suc, ◌+◌, ◌<◌, ◌≤◌, Bool, true, false, List, [], ◌∷◌, ◌++◌, length, get_or, refl, sym, ap, subst, ◌∙◌, arith, append_assoc, length-append}
use Rattle.std.specs.List.{AllByRecursion}
use Rattle.std.specs.Prelude.{not, bytes_eq}
use Rattle.std.proofs.lemmas.Slice.Eq.{bytes_eq-Decides}
use Rattle.rrc_name.specs.declared.fault.WireNameFault.{WireNameFault}
use Rattle.rrc_name.specs.declared.fault.WireNameFault.TheVariants.{Short, LabelTooLong, NameTooLong, LeftOver}
use Rattle.rrc_name.specs.Wire.{wire_of, front_of, MakeName, IsWireForm}
use Rattle.rrc_name.specs.WireFault.{IsFaultyBehind, no_length, left_over, label_too_long, name_too_long, cut_off, LabelStands, IsFirstFaultOfWire}
use Rattle.rrc_name.proofs.WireForms.{wire_of-front, front_of-push, all_labels-push, wire_form_of}

-- whole labels were read of the octets, and the rest is left
pub record IsRead (octets rest : List ℕ) : Type 0 where
  pub labels : List (List ℕ)
  pub whole : octets ≡ front_of labels ++ rest
  pub make_name : MakeName labels
  pub small : AllByRecursion (λ o. o < 256) rest

pub nothing_read : (octets : List ℕ) → AllByRecursion (λ o. o < 256) octets → IsRead octets octets
nothing_read octets small = record { labels = []; whole = refl; make_name = record { all = tt; short = omega arith }; small = small }

pub length-front : (labels : List (List ℕ)) → length (wire_of labels) ≡ length (front_of labels) + 1
length-front labels = omega (arith, ap length (wire_of-front labels), length-append (front_of labels) (0 ∷ []))

small_label : (label behind : List ℕ) → AllByRecursion (λ o. o < 256) (label ++ behind) → AllByRecursion (λ o. o < 256) label
small_label [] behind all = tt
small_label (octet ∷ label) behind all = (all.0, small_label label behind all.1)

small_behind : (label behind : List ℕ) → AllByRecursion (λ o. o < 256) (label ++ behind) → AllByRecursion (λ o. o < 256) behind
small_behind [] behind all = all
small_behind (octet ∷ label) behind all = small_behind label behind all.1

-- one more label is read
pub label_read : (octets rest behind : List ℕ) (before : ℕ) (read : IsRead octets rest) → before + length rest ≡ length octets → LabelStands before rest behind → IsRead octets behind
label_read octets rest behind before read many stands =
    let labels = read.labels in let label = stands.label in
    let size : length octets ≡ length (front_of labels) + length rest = ap length read.whole ∙ length-append (front_of labels) rest in
    let octets_small : AllByRecursion (λ o. o < 256) (length label ∷ (label ++ behind)) = subst (AllByRecursion (λ o. o < 256)) stands.parts read.small in
    let push : front_of (labels ++ label ∷ []) ≡ front_of labels ++ length label ∷ label = front_of-push labels label in
    record {
      labels = labels ++ label ∷ [];
      whole = read.whole ∙ (ap (λ r. front_of labels ++ r) stands.parts ∙ (sym (append_assoc (front_of labels) (length label ∷ label) behind) ∙ ap (λ f. f ++ behind) (sym push)));
      make_name = record {
        all = all_labels-push labels label read.make_name.all (record { some = stands.some; few = stands.few; octets = small_label label behind octets_small.1 });
        short = omega (arith, length-front (labels ++ label ∷ []), ap length push, length-append (front_of labels) (length label ∷ label), stands.room);
      };
      small = small_behind label behind octets_small.1;
    }

-- where the zero octet is left, the octets are a name's wire form
pub end_read : (octets : List ℕ) → IsRead octets (0 ∷ []) → IsWireForm octets
end_read octets read = subst IsWireForm (wire_of-front read.labels ∙ sym read.whole) (wire_form_of read.labels read.make_name.all read.make_name.short)

-- what is faulty next is the first fault
pub fault_read : (octets rest : List ℕ) (before : ℕ) (fault : WireNameFault) → IsRead octets rest → before + length rest ≡ length octets → IsFaultyBehind before rest fault
    → IsFirstFaultOfWire octets fault
fault_read octets rest before fault read many faulty =
    let size : before ≡ length (front_of read.labels) = omega (arith, ap length read.whole, length-append (front_of read.labels) rest) in
    record { labels = read.labels; rest = rest; whole = read.whole; make_name = read.make_name; faulty = subst (λ n. IsFaultyBehind n rest fault) size faulty }

-- labels that were read leave room for the zero octet
pub read_few : (octets rest : List ℕ) → IsRead octets rest → length octets ≤ 254 + length rest
read_few octets rest read = omega (arith, ap length read.whole, length-append (front_of read.labels) rest, length-front read.labels, read.make_name.short)

pub read_within : (octets rest : List ℕ) → IsRead octets rest → length rest ≤ length octets
read_within octets rest read = omega (arith, ap length read.whole, length-append (front_of read.labels) rest)

-- octets that each fit are small
pub small_from_each : (octets : List ℕ) → ((i : ℕ) → get_or octets i 0 < 256) → AllByRecursion (λ o. o < 256) octets
small_from_each [] each = tt
small_from_each (octet ∷ octets) each = (each 0, small_from_each octets (λ i. omega (arith, each (suc i))))

-- what is faulty next, by its first octet
pub no_octet_left : (octets : List ℕ) (before : ℕ) → length octets ≡ 0 → IsFaultyBehind before octets Short
no_octet_left [] before none = no_length
no_octet_left (octet ∷ octets) before none = absurd (omega arith)

pub more_behind : (octets behind : List ℕ) (before size : ℕ) → octets ≡ size ∷ behind → size ≡ 0 → octets ≢ 0 ∷ [] → IsFaultyBehind before octets LeftOver
more_behind octets [] before size parts none no_end = absurd (no_end (parts ∙ ap (λ n. n ∷ []) none))
more_behind octets (octet ∷ behind) before size parts none no_end =
    subst (λ o. IsFaultyBehind before o LeftOver) (sym (parts ∙ ap (λ n. n ∷ octet ∷ behind) none)) left_over

pub above_63 : (octets behind : List ℕ) (before size : ℕ) → octets ≡ size ∷ behind → 63 < size → IsFaultyBehind before octets LabelTooLong
above_63 octets behind before size parts above = subst (λ o. IsFaultyBehind before o LabelTooLong) (sym parts) (label_too_long above)

pub no_room : (octets behind : List ℕ) (before size : ℕ) → octets ≡ size ∷ behind → 1 ≤ size → size ≤ 63 → 255 < before + size + 2 → IsFaultyBehind before octets NameTooLong
no_room octets behind before size parts some few over = subst (λ o. IsFaultyBehind before o NameTooLong) (sym parts) (name_too_long some few over)

pub cut : (octets behind : List ℕ) (before size : ℕ) → octets ≡ size ∷ behind → 1 ≤ size → size ≤ 63 → before + size + 2 ≤ 255 → length behind < size → IsFaultyBehind before octets Short
cut octets behind before size parts some few room short = subst (λ o. IsFaultyBehind before o Short) (sym parts) (cut_off some few room short)

-- a test for the zero octet that ends a name
pub is_end : (rest end : List ℕ) → not (bytes_eq rest end) ≡ false → end ≡ 0 ∷ [] → rest ≡ 0 ∷ []
is_end rest end test end_is = (bytes_eq-Decides rest end).0 (turned (bytes_eq rest end) test) ∙ end_is
  where
    turned : (b : Bool) → not b ≡ false → b ≡ true
    turned true is = refl
    turned false is = absurd (cc)
