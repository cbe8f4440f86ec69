-- SPDX-License-Identifier: MIT
-- What a text spells is a name.
use Rattle.std.proofs.Common.{◌≡◌, ℕ, ◌≤◌, List, [], ◌∷◌, ◌++◌, length, refl, ap, subst, ◌∙◌, arith, length-append}
use Rattle.std.specs.List.{AllByRecursion}
use Rattle.rrc_name.specs.Wire.{wire_of, front_of, IsLabel, IsWireForm}
use Rattle.rrc_name.specs.Text.{Spells, root, last_dot, no_last_dot}
use Rattle.rrc_name.proofs.WireForms.{wire_of-front, wire_form_of}

-- whole labels, which leave room for the octet that ends a name
pub record AreLabels (before : List ℕ) : Type 0 where
  pub labels : List (List ℕ)
  pub all : AllByRecursion IsLabel labels
  pub octets : front_of labels ≡ before
  pub room : length before ≤ 254

pub name_of_labels : (before : List ℕ) → AreLabels before → IsWireForm (before ++ 0 ∷ [])
name_of_labels before are =
    let same : wire_of are.labels ≡ before ++ 0 ∷ [] = wire_of-front are.labels ∙ ap (λ b. b ++ 0 ∷ []) are.octets in
    subst IsWireForm same (wire_form_of are.labels are.all (omega (arith, ap length same, length-append before (0 ∷ []), are.room)))

no_labels : AreLabels []
no_labels = record { labels = []; all = tt; octets = refl; room = omega arith }

pub root-IsWireForm : IsWireForm (0 ∷ [])
root-IsWireForm = name_of_labels [] no_labels

-- what a text spells is a name
pub spelled-IsWireForm : (text name : List ℕ) → Spells text name → IsWireForm name
spelled-IsWireForm text name root = root-IsWireForm
spelled-IsWireForm text name (last_dot {labels = labels} spells some make) = wire_form_of labels make.all make.short
spelled-IsWireForm text name (no_last_dot {label = label} {labels = labels} spells last make) = wire_form_of (labels ++ label ∷ []) make.all make.short
