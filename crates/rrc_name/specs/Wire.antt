-- SPDX-License-Identifier: MIT
-- The wire form of a name (RFC 1035 3.1): each label behind its length, and a zero octet at the end.
use Rattle.std.specs.Prelude.{◌≡◌, ℕ, zero, suc, ◌<◌, ◌≤◌, List, [], ◌∷◌, ◌++◌, length, take, drop, map, if◌then◌else◌, ◌==◌, Bool, nat_eq}
use Rattle.std.specs.Cmp.Lexicographic.{pointwise}
use Rattle.std.specs.List.{AllByRecursion}
use Rattle.std.specs.Char.{to_ascii_lowercase}

-- the octets of the name that has these labels
abbrev pub wire_of : List (List ℕ) → List ℕ
wire_of [] = 0 ∷ []
wire_of (label ∷ labels) = length label ∷ (label ++ wire_of labels)

-- the octets of some labels in a wire form, without the zero octet at its end
abbrev pub front_of : List (List ℕ) → List ℕ
front_of [] = []
front_of (label ∷ labels) = length label ∷ (label ++ front_of labels)

-- at most so many labels, read from the front of a wire form
unfoldable pub labels_within : ℕ → List ℕ → List (List ℕ)
labels_within zero octets = []
labels_within (suc most) [] = []
labels_within (suc most) (size ∷ octets) =
    if size == 0 then [] else take size octets ∷ labels_within most (drop size octets)

-- the labels of a wire form; each takes an octet at least
abbrev pub labels_of : List ℕ → List (List ℕ)
labels_of octets = labels_within (length octets) octets

-- a label has 1 to 63 octets (RFC 1035 2.3.4)
pub record IsLabel (label : List ℕ) : Type 0 where
  pub some : 1 ≤ length label
  pub few : length label ≤ 63
  pub octets : AllByRecursion (λ octet. octet < 256) label

-- the labels of a name have 1 to 63 octets, and its wire form at most 255 (RFC 1035 2.3.4)
pub record MakeName (labels : List (List ℕ)) : Type 0 where
  pub all : AllByRecursion IsLabel labels
  pub short : length (wire_of labels) ≤ 255

-- the octets are a whole name: its labels, of at most 255 octets in all (RFC 1035 2.3.4)
pub record IsWireForm (octets : List ℕ) : Type 0 where
  pub whole : wire_of (labels_of octets) ≡ octets
  pub labels : AllByRecursion IsLabel (labels_of octets)
  pub short : length octets ≤ 255

-- a name begins with a label, and the name behind it has the other labels
pub record BeginsWith (name label behind : List ℕ) : Type 0 where
  pub octets : name ≡ length label ∷ (label ++ behind)
  pub labels : labels_of name ≡ label ∷ labels_of behind
  pub is_label : IsLabel label
  pub is_name : IsWireForm behind

-- the letters A to Z as a to z, every other octet as it is (RFC 4343 3); a length octet is below 'A', so it stays
abbrev pub folded : List ℕ → List ℕ
folded octets = map to_ascii_lowercase octets

-- whether the names are the same but for the case of letters
abbrev pub same_name : List ℕ → List ℕ → Bool
same_name a b = pointwise nat_eq (folded a) (folded b)

-- the names are the same but for the case of letters
abbrev pub IsSameName : List ℕ → List ℕ → Type 0
IsSameName a b = folded a ≡ folded b
