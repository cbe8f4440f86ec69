-- SPDX-License-Identifier: MIT
-- Octets have the parts of a layout in one way, and the tests tell whether they do.
use Rattle.std.proofs.Common.{◌≡◌, ℕ, ◌-◌, ◌<◌, ◌≤◌, Bool, false, List, [], ◌∷◌, ◌++◌, length, Option, Some, None, refl, sym, ap, subst, ◌∙◌, arith, append_assoc, length-append, take, drop, Decides, MatchOption}
use Rattle.std.specs.Prelude.{⊤, nat_lt, nat_le, nat_eq, ◌==◌, ◌&&◌}
use Rattle.std.specs.Cmp.Lexicographic.{pointwise, bytes_decides}
use Rattle.std.specs.List.{AllByRecursion, concat, list_all}
use Rattle.std.proofs.lemmas.Bool.Decides.{Decides-and, Decides-like, Decides-eqb, Decides-ltb, same_from_decides, nat_tests}
use Rattle.std.proofs.lemmas.List.{take_at, drop_at, take-append-drop, length-take-le}
use Rattle.rrc_name.specs.Wire.{wire_of, labels_of, IsLabel, IsWireForm}
use Rattle.rrc_wire.specs.Layout.{LayoutOf, layout_of}
use Rattle.rrc_wire.specs.Plain.{Parts, octets_of, AreParts, Fills, IsPlain, AreNamesThen, is_label, is_wire_form, names_in, parts_in, are_parts, is_filled, fills_any, is_plain}
use Rattle.rrc_wire.proofs.Steps.{le_true, true_le}
use Rattle.rrc_wire.proofs.FrontNames.{names_in-then, one_behind_names}

-- the parts of octets are those that the octets are made of
pub parts_in-octets_of : (layout : LayoutOf) (parts : Parts) → AreParts layout parts → parts_in layout (octets_of parts) ≡ parts
parts_in-octets_of layout parts are =
    let octets = octets_of parts in
    let front = parts.before ++ concat parts.names in
    let before : take layout.before octets ≡ parts.before = take_at parts.before (concat parts.names ++ parts.behind) layout.before are.before in
    let rest : drop layout.before octets ≡ concat parts.names ++ parts.behind = drop_at parts.before (concat parts.names ++ parts.behind) layout.before are.before in
    let names : names_in layout.names (drop layout.before octets) ≡ parts.names =
    ap (names_in layout.names) rest ∙ (ap (λ n. names_in n (concat parts.names ++ parts.behind)) (sym are.names) ∙ names_in-then parts.names parts.behind are.wire_forms) in
    let turned : octets ≡ front ++ parts.behind = sym (append_assoc parts.before (concat parts.names) parts.behind) in
    let size : length front ≡ length octets - layout.behind = omega (arith, ap length turned, length-append front parts.behind, are.behind) in
    let behind : drop (length octets - layout.behind) octets ≡ parts.behind = ap (drop (length octets - layout.behind)) turned ∙ drop_at front parts.behind (length octets - layout.behind) size in
    λ i. record { before = before i; names = names i; behind = behind i }

-- the tests tell

Decides-le : (a b : ℕ) → Decides (nat_le a b) (a ≤ b)
Decides-le a b = (true_le a b, le_true a b)

Decides-list_all : {X : Type 0} (p : X → Bool) (P : X → Type 0) → ((x : X) → Decides (p x) (P x)) → (xs : List X) → Decides (list_all p xs) (AllByRecursion P xs)
Decides-list_all p P each [] = (λ _. tt, λ _. refl)
Decides-list_all p P each (x ∷ xs) = Decides-and (p x) (list_all p xs) (each x) (Decides-list_all p P each xs)

is_label-Decides : (label : List ℕ) → Decides (is_label label) (IsLabel label)
is_label-Decides label =
    let small = Decides-list_all (λ octet. nat_lt octet 256) (λ octet. octet < 256) (λ octet. Decides-ltb octet 256) label in
    Decides-like (is_label label) (λ (some, (few, octets)). record { some = some; few = few; octets = octets }) (λ is. (is.some, (is.few, is.octets)))
    (Decides-and (nat_le 1 (length label)) (nat_le (length label) 63 && list_all (λ octet. nat_lt octet 256) label) (Decides-le 1 (length label))
    (Decides-and (nat_le (length label) 63) (list_all (λ octet. nat_lt octet 256) label) (Decides-le (length label) 63) small))

pub is_wire_form-Decides : (octets : List ℕ) → Decides (is_wire_form octets) (IsWireForm octets)
is_wire_form-Decides octets =
    let labels = labels_of octets in
    Decides-like (is_wire_form octets) (λ (whole, (are, short)). record { whole = whole; labels = are; short = short }) (λ is. (is.whole, (is.labels, is.short)))
    (Decides-and (pointwise nat_eq (wire_of labels) octets) (list_all is_label labels && nat_le (length octets) 255) (bytes_decides (wire_of labels) octets)
    (Decides-and (list_all is_label labels) (nat_le (length octets) 255) (Decides-list_all is_label IsLabel is_label-Decides labels) (Decides-le (length octets) 255)))

are_parts-Decides : (layout : LayoutOf) (parts : Parts) → Decides (are_parts layout parts) (AreParts layout parts)
are_parts-Decides layout parts =
    let names = length parts.names == layout.names in
    let forms = list_all is_wire_form parts.names in
    let behind = length parts.behind == layout.behind in
    Decides-like (are_parts layout parts) (λ (before, (names, (forms, behind))). record { before = before; names = names; wire_forms = forms; behind = behind })
    (λ are. (are.before, (are.names, (are.wire_forms, are.behind))))
    (Decides-and (length parts.before == layout.before) (names && (forms && behind)) (Decides-eqb (length parts.before) layout.before)
    (Decides-and names (forms && behind) (Decides-eqb (length parts.names) layout.names)
    (Decides-and forms behind (Decides-list_all is_wire_form IsWireForm is_wire_form-Decides parts.names) (Decides-eqb (length parts.behind) layout.behind))))

-- where octets fill a layout, their parts are found
pub found_parts : (layout : LayoutOf) (octets : List ℕ) → (is : Fills layout octets) → parts_in layout octets ≡ is.parts
found_parts layout octets is = ap (parts_in layout) (sym is.whole) ∙ parts_in-octets_of layout is.parts is.are_parts

pub is_filled-Decides : (layout : LayoutOf) (octets : List ℕ) → Decides (is_filled layout octets) (Fills layout octets)
unfolding is_filled
is_filled-Decides layout octets =
    let parts = parts_in layout octets in
    Decides-like (is_filled layout octets) (λ (are, whole). record { parts = parts; are_parts = are; whole = whole })
    (λ is. let found = sym (found_parts layout octets is) in (subst (AreParts layout) found is.are_parts, ap octets_of (sym found) ∙ is.whole))
    (Decides-and (are_parts layout parts) (pointwise nat_eq (octets_of parts) octets) (are_parts-Decides layout parts) (bytes_decides (octets_of parts) octets))

fills_any-Decides : (layout : Option LayoutOf) (octets : List ℕ) → Decides (fills_any layout octets) (MatchOption layout ⊤ (λ l. Fills l octets))
fills_any-Decides None octets = (λ _. tt, λ _. refl)
fills_any-Decides (Some layout) octets = is_filled-Decides layout octets

pub is_plain-Decides : (rtype : ℕ) (octets : List ℕ) → Decides (is_plain rtype octets) (IsPlain rtype octets)
unfolding is_plain
is_plain-Decides rtype octets =
    Decides-like (is_plain rtype octets) (λ (short, fills). record { short = short; fills = fills }) (λ is. (is.short, is.fills))
    (Decides-and (nat_le (length octets) 65535) (fills_any (layout_of rtype) octets) (Decides-le (length octets) 65535) (fills_any-Decides (layout_of rtype) octets))

-- the walk over the names of a layout

-- octets that fill a layout have its names behind its first octets
fills_names : (layout : LayoutOf) (octets : List ℕ) → (is : Fills layout octets) → AreNamesThen layout.names (drop layout.before octets) is.parts.behind
fills_names layout octets is =
    let parts = is.parts in
    let rest = concat parts.names ++ parts.behind in
    record {
      names = parts.names;
      as_many = is.are_parts.names;
      wire_forms = is.are_parts.wire_forms;
      whole = sym (drop_at parts.before rest layout.before is.are_parts.before) ∙ ap (drop layout.before) is.whole;
    }

names_fill : (layout : LayoutOf) (octets behind : List ℕ) → layout.before ≤ length octets → AreNamesThen layout.names (drop layout.before octets) behind → length behind ≡ layout.behind
    → Fills layout octets
names_fill layout octets behind room are size =
    let before = take layout.before octets in
    record {
      parts = record { before = before; names = are.names; behind = behind };
      are_parts = record { before = length-take-le layout.before octets room; names = are.as_many; wire_forms = are.wire_forms; behind = size };
      whole = ap (λ rest. before ++ rest) are.whole ∙ take-append-drop layout.before octets;
    }

not_filled : (layout : LayoutOf) (octets : List ℕ) → (Fills layout octets → ⊥) → false ≡ is_filled layout octets
not_filled layout octets none = same_from_decides false (is_filled layout octets) ((λ h. absurd cc), λ is. absurd (none is)) (is_filled-Decides layout octets)

pub too_short : (layout : LayoutOf) (octets : List ℕ) → length octets < layout.before → false ≡ is_filled layout octets
too_short layout octets short =
    not_filled layout octets (λ is. omega (arith, short, ap length is.whole, is.are_parts.before, length-append is.parts.before (concat is.parts.names ++ is.parts.behind)))

pub no_names_fill : (layout : LayoutOf) (octets : List ℕ) → ((behind : List ℕ) → AreNamesThen layout.names (drop layout.before octets) behind → ⊥) → false ≡ is_filled layout octets
no_names_fill layout octets none = not_filled layout octets (λ is. none is.parts.behind (fills_names layout octets is))

pub last_octets_fill : (layout : LayoutOf) (octets behind : List ℕ) → layout.before ≤ length octets → AreNamesThen layout.names (drop layout.before octets) behind
    → (length behind == layout.behind) ≡ is_filled layout octets
last_octets_fill layout octets behind room are =
    same_from_decides (length behind == layout.behind) (is_filled layout octets)
    (Decides-like (length behind == layout.behind) (names_fill layout octets behind room are)
    (λ is. ap length (one_behind_names layout.names (drop layout.before octets) behind is.parts.behind are (fills_names layout octets is)) ∙ is.are_parts.behind)
    (Decides-eqb (length behind) layout.behind))
    (is_filled-Decides layout octets)

-- a type's layout decides

pub plain_by_layout : (rtype : ℕ) (octets : List ℕ) (layout : Option LayoutOf) → length octets ≤ 65535 → layout ≡ layout_of rtype → fills_any layout octets ≡ is_plain rtype octets
unfolding is_plain
plain_by_layout rtype octets layout short is =
    ap (λ (l : Option LayoutOf). fills_any l octets) is ∙ sym (ap (λ b. b && fills_any (layout_of rtype) octets) (le_true (length octets) 65535 short))

pub too_long : (rtype : ℕ) (octets : List ℕ) → 65535 < length octets → nat_le (length octets) 65535 ≡ is_plain rtype octets
unfolding is_plain
too_long rtype octets long =
    let no : nat_le (length octets) 65535 ≡ false = grind (arith, nat_tests) in no ∙ sym (ap (λ b. b && fills_any (layout_of rtype) octets) no)
