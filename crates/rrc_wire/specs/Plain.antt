-- SPDX-License-Identifier: MIT
-- Plain data, as they stand outside of a message: their names are whole, and no pointer leads elsewhere.
use Rattle.std.specs.Prelude.{◌≡◌, ◌≤◌, ℕ, zero, suc, ◌-◌, ◌==◌, nat_eq, nat_lt, nat_le, Bool, true, ◌&&◌, List, [], ◌∷◌, ◌++◌, length, take, drop, Option, Some, None, MatchOption, ⊤}
use Rattle.std.specs.Cmp.Lexicographic.{pointwise}
use Rattle.std.specs.List.{AllByRecursion, concat, list_all}
use Rattle.rrc_name.specs.Wire.{wire_of, labels_of, IsLabel, IsWireForm}
use Rattle.rrc_wire.specs.Layout.{LayoutOf, layout_of}

-- fixed octets, names, fixed octets
pub record Parts : Type 0 where
  pub before : List ℕ
  pub names : List (List ℕ)
  pub behind : List ℕ

-- the parts, end to end
abbrev pub octets_of : Parts → List ℕ
octets_of parts = parts.before ++ (concat parts.names ++ parts.behind)

-- the parts are as many as a layout has, and each name is a wire form of at most 255 octets (RFC 1035 3.1, 2.3.4)
pub record AreParts (layout : LayoutOf) (parts : Parts) : Type 0 where
  pub before : length parts.before ≡ layout.before
  pub names : length parts.names ≡ layout.names
  pub wire_forms : AllByRecursion IsWireForm parts.names
  pub behind : length parts.behind ≡ layout.behind

-- the octets are the parts of a layout, with none left over and none missing
pub record Fills (layout : LayoutOf) (octets : List ℕ) : Type 0 where
  pub parts : Parts
  pub are_parts : AreParts layout parts
  pub whole : octets_of parts ≡ octets

-- the octets are plain data of a type: they fill its layout, and are any octets where it has none (RFC 1035 3.3, RFC 3597 4)
pub record IsPlain (rtype : ℕ) (octets : List ℕ) : Type 0 where
  pub short : length octets ≤ 65535
  pub fills : MatchOption (layout_of rtype) ⊤ (λ layout. Fills layout octets)

-- a name of at most so many octets, and then others
pub record IsNameThen (most : ℕ) (octets behind : List ℕ) : Type 0 where
  pub labels : List (List ℕ)
  pub are_labels : AllByRecursion IsLabel labels
  pub short : length (wire_of labels) ≤ most
  pub whole : wire_of labels ++ behind ≡ octets

-- so many names end to end, and then others
pub record AreNamesThen (count : ℕ) (octets behind : List ℕ) : Type 0 where
  pub names : List (List ℕ)
  pub as_many : length names ≡ count
  pub wire_forms : AllByRecursion IsWireForm names
  pub whole : concat names ++ behind ≡ octets

-- whether octets are a label
abbrev pub is_label : List ℕ → Bool
is_label label = nat_le 1 (length label) && (nat_le (length label) 63 && list_all (λ octet. nat_lt octet 256) label)

-- whether octets are a whole name
abbrev pub is_wire_form : List ℕ → Bool
is_wire_form octets = pointwise nat_eq (wire_of (labels_of octets)) octets && (list_all is_label (labels_of octets) && nat_le (length octets) 255)

-- so many pieces from the front of octets, each as long as the name that it begins with
abbrev pub names_in : ℕ → List ℕ → List (List ℕ)
names_in zero octets = []
names_in (suc names) octets = wire_of (labels_of octets) ∷ names_in names (drop (length (wire_of (labels_of octets))) octets)

-- the parts that octets have where they fill a layout; they can have no others
abbrev pub parts_in : LayoutOf → List ℕ → Parts
parts_in layout octets =
    record {
      before = take layout.before octets;
      names = names_in layout.names (drop layout.before octets);
      behind = drop (length octets - layout.behind) octets;
    }

-- whether the parts are as many as a layout has, and each name is one
abbrev pub are_parts : LayoutOf → Parts → Bool
are_parts layout parts = (length parts.before == layout.before) && ((length parts.names == layout.names) && (list_all is_wire_form parts.names && (length parts.behind == layout.behind)))

-- whether octets fill a layout
unfoldable pub is_filled : LayoutOf → List ℕ → Bool
is_filled layout octets = are_parts layout (parts_in layout octets) && pointwise nat_eq (octets_of (parts_in layout octets)) octets

-- whether octets fill the layout, if there is one
abbrev pub fills_any : Option LayoutOf → List ℕ → Bool
fills_any None octets = true
fills_any (Some layout) octets = is_filled layout octets

-- whether octets are plain data of a type
unfoldable pub is_plain : ℕ → List ℕ → Bool
is_plain rtype octets = nat_le (length octets) 65535 && fills_any (layout_of rtype) octets
