-- SPDX-License-Identifier: MIT
-- The keys' comparison is an equivalence, equal keys are one, and the keys' order is total and ties where they are equal.
use Rattle.std.specs.Prelude.{◌≡◌, ℕ, List, true, ◌==◌, reverse, nat_eq}
use Rattle.std.specs.Cmp.{first_so, second_so, IsEquivalence, IsTotalOrder, nat_eq_equiv, nat_cmp_total, on_equiv, on_total, then_total, both_tied, unsigned_ties}
use Rattle.std.specs.Cmp.Lexicographic.{lists_equiv, lists_total, lists_ties, pointwise, slice_cmp, bytes_decides}
use Rattle.std.specs.Ordering.{nat_cmp, ordering_then, is_eq}
use Rattle.std.proofs.Common.{refl, sym, ap, ◌∙◌}
use Rattle.std.proofs.lemmas.Bool.Decides.{Decides-eqb}
use Rattle.std.proofs.lemmas.Cmp.{and_equiv, nat_list_cmp_total, tied_itself}
use Rattle.std.specs.declared.cmp.Ordering.{Ordering}
use Rattle.std.specs.declared.cmp.Ordering.TheVariants.{Less, Equal, Greater}
use Rattle.std.specs.Hash.{Alike}
use Rattle.rrc_name.specs.declared.slot.Slot.{Slot}
use Rattle.rrc_name.specs.declared.slot.Slot.TheVariants.{Set, Nx, Failed}
use Rattle.rrc_name.specs.Key.{KeyOf, slot_eq, eq_in_name, key_eq, kind_place, type_of, slot_order, order_in_name, key_order, slot_hash, key_hash}
use Rattle.rrc_name.specs.Wire.{labels_of, folded}
use Rattle.rrc_name.specs.Order.{label_order, canonical_order}

pub slot_eq-laws : IsEquivalence slot_eq
slot_eq-laws = record { refl = itself; symm = mirrored; congr = along }
  where
    itself : (x : Slot) → slot_eq x x ≡ true
    itself (Set a) = nat_eq_equiv.refl a
    itself Nx = refl
    itself (Failed a) = nat_eq_equiv.refl a

    mirrored : (x y : Slot) → slot_eq x y ≡ slot_eq y x
    mirrored (Set a) (Set b) = nat_eq_equiv.symm a b
    mirrored (Set a) Nx = refl
    mirrored (Set a) (Failed b) = refl
    mirrored Nx (Set b) = refl
    mirrored Nx Nx = refl
    mirrored Nx (Failed b) = refl
    mirrored (Failed a) (Set b) = refl
    mirrored (Failed a) Nx = refl
    mirrored (Failed a) (Failed b) = nat_eq_equiv.symm a b

    along : (x y z : Slot) → slot_eq x y ≡ true → slot_eq x z ≡ slot_eq y z
    along (Set a) (Set b) (Set c) h = nat_eq_equiv.congr a b c h
    along (Set a) (Set b) Nx h = refl
    along (Set a) (Set b) (Failed c) h = refl
    along (Set a) Nx z h = absurd (cc)
    along (Set a) (Failed b) z h = absurd (cc)
    along Nx (Set b) z h = absurd (cc)
    along Nx Nx z h = refl
    along Nx (Failed b) z h = absurd (cc)
    along (Failed a) (Set b) z h = absurd (cc)
    along (Failed a) Nx z h = absurd (cc)
    along (Failed a) (Failed b) (Set c) h = refl
    along (Failed a) (Failed b) Nx h = refl
    along (Failed a) (Failed b) (Failed c) h = nat_eq_equiv.congr a b c h

pub key_eq-laws : IsEquivalence key_eq
key_eq-laws =
    and_equiv (on_equiv (λ (k : KeyOf). k.name) (lists_equiv nat_eq_equiv))
    (and_equiv (on_equiv (λ (k : KeyOf). k.class) nat_eq_equiv) (on_equiv (λ (k : KeyOf). k.slot) slot_eq-laws))

-- equal slots are one
pub slot_eq-same : (a b : Slot) → slot_eq a b ≡ true → a ≡ b
slot_eq-same (Set a) (Set b) h = ap Set ((Decides-eqb a b).0 h)
slot_eq-same (Set a) Nx h = absurd (cc)
slot_eq-same (Set a) (Failed b) h = absurd (cc)
slot_eq-same Nx (Set b) h = absurd (cc)
slot_eq-same Nx Nx h = refl
slot_eq-same Nx (Failed b) h = absurd (cc)
slot_eq-same (Failed a) (Set b) h = absurd (cc)
slot_eq-same (Failed a) Nx h = absurd (cc)
slot_eq-same (Failed a) (Failed b) h = ap Failed ((Decides-eqb a b).0 h)

-- equal keys are one
pub key_eq-same : (a b : KeyOf) → key_eq a b ≡ true → a ≡ b
key_eq-same a b h =
    let in_name : eq_in_name a b ≡ true = second_so (pointwise nat_eq a.name b.name) (eq_in_name a b) h in
    let names : a.name ≡ b.name = (bytes_decides a.name b.name).0 (first_so (pointwise nat_eq a.name b.name) (eq_in_name a b) h) in
    let classes : a.class ≡ b.class = (Decides-eqb a.class b.class).0 (first_so (a.class == b.class) (slot_eq a.slot b.slot) in_name) in
    let slots : a.slot ≡ b.slot = slot_eq-same a.slot b.slot (second_so (a.class == b.class) (slot_eq a.slot b.slot) in_name) in
    λ i. record { name = names i; class = classes i; slot = slots i }

pub slot_order-total : IsTotalOrder slot_order
slot_order-total = then_total (on_total kind_place nat_cmp_total) (on_total type_of nat_cmp_total)

pub slot_order-ties : (a b : Slot) → slot_eq a b ≡ is_eq (slot_order a b)
slot_order-ties (Set a) (Set b) = unsigned_ties a b
slot_order-ties (Set a) Nx = refl
slot_order-ties (Set a) (Failed b) = refl
slot_order-ties Nx (Set b) = refl
slot_order-ties Nx Nx = refl
slot_order-ties Nx (Failed b) = refl
slot_order-ties (Failed a) (Set b) = refl
slot_order-ties (Failed a) Nx = refl
slot_order-ties (Failed a) (Failed b) = unsigned_ties a b

pub label_order-total : IsTotalOrder label_order
label_order-total = on_total folded nat_list_cmp_total

pub canonical_order-total : IsTotalOrder canonical_order
canonical_order-total = on_total (λ (name : List ℕ). reverse (labels_of name)) (lists_total label_order-total)

pub order_in_name-total : IsTotalOrder order_in_name
order_in_name-total = then_total (on_total (λ (k : KeyOf). k.class) nat_cmp_total) (on_total (λ (k : KeyOf). k.slot) slot_order-total)

pub key_order-total : IsTotalOrder key_order
key_order-total =
    then_total (on_total (λ (k : KeyOf). k.name) canonical_order-total)
    (then_total (on_total (λ (k : KeyOf). k.name) nat_list_cmp_total) order_in_name-total)

-- an order in front of another changes no tie where it ties with it
then-ties : (order behind : Ordering) → (is_eq behind ≡ true → order ≡ Equal) → is_eq behind ≡ is_eq (ordering_then order behind)
then-ties Less Less h = refl
then-ties Less Equal h = absurd (let e : Less ≡ Equal = h refl in cc)
then-ties Less Greater h = refl
then-ties Equal behind h = refl
then-ties Greater Less h = refl
then-ties Greater Equal h = absurd (let e : Greater ≡ Equal = h refl in cc)
then-ties Greater Greater h = refl

order_in_name-ties : (a b : KeyOf) → eq_in_name a b ≡ is_eq (order_in_name a b)
order_in_name-ties a b =
    both_tied (a.class == b.class) (slot_eq a.slot b.slot) (nat_cmp a.class b.class) (slot_order a.slot b.slot) (unsigned_ties a.class b.class) (slot_order-ties a.slot b.slot)

-- the order ties exactly where the keys are equal
pub key_order-ties : (a b : KeyOf) → key_eq a b ≡ is_eq (key_order a b)
key_order-ties a b =
    let octets : pointwise nat_eq a.name b.name ≡ is_eq (slice_cmp nat_cmp a.name b.name) = lists_ties nat_cmp unsigned_ties a.name b.name in
    let behind = ordering_then (slice_cmp nat_cmp a.name b.name) (order_in_name a b) in
    let tied : key_eq a b ≡ is_eq behind =
    both_tied (pointwise nat_eq a.name b.name) (eq_in_name a b) (slice_cmp nat_cmp a.name b.name) (order_in_name a b) octets (order_in_name-ties a b) in
    tied ∙ then-ties (canonical_order a.name b.name) behind
    (λ h. ap (λ (k : KeyOf). canonical_order a.name k.name) (sym (key_eq-same a b (tied ∙ h))) ∙ tied_itself canonical_order-total a.name)

-- equal slots and keys are hashed alike
pub slot_hash-alike : Alike slot_eq slot_hash
slot_hash-alike = record { fed = λ a b h. ap slot_hash (slot_eq-same a b h) }

pub key_hash-alike : Alike key_eq key_hash
key_hash-alike = record { fed = λ a b h. ap key_hash (key_eq-same a b h) }
