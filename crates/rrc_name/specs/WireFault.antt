-- SPDX-License-Identifier: MIT
-- What is wrong with octets that are not the wire form of a name (RFC 1035 3.1).
use Rattle.std.specs.Prelude.{◌≡◌, ◌<◌, ◌≤◌, ◌⊎◌, ℕ, ◌+◌, List, [], ◌∷◌, ◌++◌, length}
use Rattle.std.specs.List.{AllByRecursion}
use Rattle.rrc_name.specs.declared.fault.WireNameFault.{WireNameFault}
use Rattle.rrc_name.specs.declared.fault.WireNameFault.TheVariants.{Short, LabelTooLong, NameTooLong, LeftOver}
use Rattle.rrc_name.specs.Wire.{front_of, MakeName, IsWireForm}

-- behind labels that take so many octets, what stands next is faulty in this way
pub data IsFaultyBehind (before : ℕ) : List ℕ → WireNameFault → Type 0 where
  -- the length octet is missing
  no_length : IsFaultyBehind before [] Short
  -- more octets stand behind the zero octet that ends the name
  left_over : {octet : ℕ} {octets : List ℕ} → IsFaultyBehind before (0 ∷ octet ∷ octets) LeftOver
  -- the length octet is above 63
  label_too_long : {size : ℕ} {octets : List ℕ} → 63 < size → IsFaultyBehind before (size ∷ octets) LabelTooLong
  -- with this label and the zero octet the name has more than 255 octets
  name_too_long : {size : ℕ} {octets : List ℕ} → 1 ≤ size → size ≤ 63 → 255 < before + size + 2 → IsFaultyBehind before (size ∷ octets) NameTooLong
  -- the octets end within the label
  cut_off : {size : ℕ} {octets : List ℕ} → 1 ≤ size → size ≤ 63 → before + size + 2 ≤ 255 → length octets < size → IsFaultyBehind before (size ∷ octets) Short

-- behind labels that take so many octets, octets begin with a label that has room
pub record LabelStands (before : ℕ) (octets behind : List ℕ) : Type 0 where
  pub label : List ℕ
  pub parts : octets ≡ length label ∷ (label ++ behind)
  pub some : 1 ≤ length label
  pub few : length label ≤ 63
  pub room : before + length label + 2 ≤ 255

-- reading from the left, the first fault of octets: whole labels that make a name stand before what is faulty
pub record IsFirstFaultOfWire (octets : List ℕ) (fault : WireNameFault) : Type 0 where
  pub labels : List (List ℕ)
  pub rest : List ℕ
  pub whole : octets ≡ front_of labels ++ rest
  pub make_name : MakeName labels
  pub faulty : IsFaultyBehind (length (front_of labels)) rest fault

-- octets are the wire form of a name, or they have one first fault, and never both
pub record HasFormOrFault (octets : List ℕ) : Type 0 where
  pub either : IsWireForm octets ⊎ ((fault : WireNameFault) × IsFirstFaultOfWire octets fault)
  pub one_fault : (fault other : WireNameFault) → IsFirstFaultOfWire octets fault → IsFirstFaultOfWire octets other → fault ≡ other
  pub not_both : (fault : WireNameFault) → IsWireForm octets → IsFirstFaultOfWire octets fault → ⊥

abbrev pub OneFormOrFault : Type 0
OneFormOrFault = (octets : List ℕ) → AllByRecursion (λ octet. octet < 256) octets → HasFormOrFault octets
