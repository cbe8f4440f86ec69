-- SPDX-License-Identifier: MIT
-- Data of a layout, as they are put together: fixed octets, one name after another, fixed octets.
use Rattle.std.proofs.Common.{◌≡◌, ℕ, ◌+◌, ◌*◌, ◌≤◌, Bool, true, false, cond, List, [], ◌∷◌, ◌++◌, length, Option, Some, None, Result, Ok, Err, refl, sym, ap, subst, ◌∙◌, arith, append_assoc, length-append, MatchOption}
use Rattle.std.specs.Prelude.{⊤, IfOk}
use Rattle.std.specs.List.{AllByRecursion, concat}
use Rattle.std.proofs.lemmas.List.{append-nil}
use Rattle.rrc_name.specs.Wire.{IsWireForm}
use Rattle.rrc_wire.specs.declared.fault.WireFault.{WireFault}
use Rattle.rrc_wire.specs.Layout.{LayoutOf, layout_of}
use Rattle.rrc_wire.specs.Plain.{Fills, IsPlain}

-- a layout
abbrev pub laid : ℕ → ℕ → ℕ → LayoutOf
laid before names behind = record { before = before; names = names; behind = behind }

nothing : (octets : List ℕ) → length octets ≡ 0 → octets ≡ []
nothing [] none = refl
nothing (octet ∷ octets) none = absurd (omega arith)

all_more : (names : List (List ℕ)) (name : List ℕ) → AllByRecursion IsWireForm names → IsWireForm name → AllByRecursion IsWireForm (names ++ name ∷ [])
all_more [] name all is = (is, tt)
all_more (first ∷ names) name all is = (all.0, all_more names name all.1 is)

concat_more : (names : List (List ℕ)) (name : List ℕ) → concat (names ++ name ∷ []) ≡ concat names ++ name
concat_more [] name = append-nil name
concat_more (first ∷ names) name = ap (λ rest. first ++ rest) (concat_more names name) ∙ sym (append_assoc first (concat names) name)

-- fixed octets
pub fills_first : (before : ℕ) (octets : List ℕ) → length octets ≡ before → Fills (laid before 0 0) octets
fills_first before octets size =
    record {
      parts = record { before = octets; names = []; behind = [] };
      are_parts = record { before = size; names = refl; wire_forms = tt; behind = refl };
      whole = append-nil octets;
    }

-- so far there are no fixed octets behind the names
front : (before names : ℕ) (octets : List ℕ) → (is : Fills (laid before names 0) octets) → is.parts.before ++ concat is.parts.names ≡ octets
front before names octets is =
    let none : is.parts.behind ≡ [] = nothing is.parts.behind is.are_parts.behind in
    ap (λ rest. is.parts.before ++ rest) (sym (append-nil (concat is.parts.names)) ∙ ap (λ rest. concat is.parts.names ++ rest) (sym none)) ∙ is.whole

-- one more name
pub fills_name : (before names : ℕ) (octets name : List ℕ) → Fills (laid before names 0) octets → IsWireForm name → Fills (laid before (names + 1) 0) (octets ++ name)
fills_name before names octets name is wire_form =
    let parts = is.parts in
    let whole : parts.before ++ (concat (parts.names ++ name ∷ []) ++ []) ≡ octets ++ name =
    ap (λ rest. parts.before ++ rest) (append-nil (concat (parts.names ++ name ∷ [])) ∙ concat_more parts.names name)
    ∙ (sym (append_assoc parts.before (concat parts.names) name) ∙ ap (λ rest. rest ++ name) (front before names octets is)) in
    record {
      parts = record { before = parts.before; names = parts.names ++ name ∷ []; behind = [] };
      are_parts = record {
        before = is.are_parts.before;
        names = length-append parts.names (name ∷ []) ∙ ap (λ n. n + 1) is.are_parts.names;
        wire_forms = all_more parts.names name is.are_parts.wire_forms wire_form;
        behind = refl;
      };
      whole = whole;
    }

-- fixed octets behind the names
pub fills_last : (before names behind : ℕ) (octets last : List ℕ) → Fills (laid before names 0) octets → length last ≡ behind → Fills (laid before names behind) (octets ++ last)
fills_last before names behind octets last is size =
    let parts = is.parts in
    record {
      parts = record { before = parts.before; names = parts.names; behind = last };
      are_parts = record { before = is.are_parts.before; names = is.are_parts.names; wire_forms = is.are_parts.wire_forms; behind = size };
      whole = sym (append_assoc parts.before (concat parts.names) last) ∙ ap (λ rest. rest ++ last) (front before names octets is);
    }

-- all of a layout
pub fills_whole : (layout : LayoutOf) (before names last octets : List ℕ) → length before ≡ layout.before → Fills (laid (length before) layout.names 0) names → length last ≡ layout.behind
    → octets ≡ names ++ last → Fills layout octets
fills_whole layout before names last octets first fills size are =
    subst (Fills layout) (sym are) (fills_last layout.before layout.names layout.behind names last (subst (λ n. Fills (laid n layout.names 0) names) first fills) size)

-- layouts are small, so what fills one is short

names-short : (names : List (List ℕ)) → AllByRecursion IsWireForm names → length (concat names) ≤ 255 * length names
names-short [] all = omega arith
names-short (name ∷ names) all = omega (arith, length-append name (concat names), all.0.short, names-short names all.1)

fills-short : (layout : LayoutOf) (octets : List ℕ) → Fills layout octets → length octets ≤ layout.before + 255 * layout.names + layout.behind
fills-short layout octets is =
    let parts = is.parts in let are = is.are_parts in
    let sizes : length octets ≡ length parts.before + (length (concat parts.names) + length parts.behind) =
    ap length (sym is.whole) ∙ (length-append parts.before (concat parts.names ++ parts.behind) ∙ ap (λ n. length parts.before + n) (length-append (concat parts.names) parts.behind)) in
    omega (arith, sizes, names-short parts.names are.wire_forms, are.before, are.names, are.behind)

record IsSmall (l : LayoutOf) : Type 0 where
  pub before : l.before ≤ 6
  pub names : l.names ≤ 2
  pub behind : l.behind ≤ 20

abbrev AreSmall : Option LayoutOf → Type 0
AreSmall layout = (l : LayoutOf) → layout ≡ Some l → IsSmall l

one_or : (b : Bool) (one : LayoutOf) (others : Option LayoutOf) → IsSmall one → AreSmall others → AreSmall (cond b (Some one) others)
one_or true one others is rest = λ l h. subst IsSmall (cc) is
one_or false one others is rest = rest

no_layout : AreSmall None
no_layout l h = absurd cc

layout_of-small : (rtype : ℕ) → AreSmall (layout_of rtype)
unfolding layout_of
layout_of-small rtype =
    one_or _ (laid 0 1 0) _ (record { before = omega arith; names = omega arith; behind = omega arith })
    (one_or _ (laid 0 2 20) _ (record { before = omega arith; names = omega arith; behind = omega arith })
    (one_or _ (laid 0 2 0) _ (record { before = omega arith; names = omega arith; behind = omega arith })
    (one_or _ (laid 2 1 0) _ (record { before = omega arith; names = omega arith; behind = omega arith })
    (one_or _ (laid 2 2 0) _ (record { before = omega arith; names = omega arith; behind = omega arith })
    (one_or _ (laid 6 1 0) _ (record { before = omega arith; names = omega arith; behind = omega arith })
    no_layout)))))

-- data that fill the layout of their type are plain
pub plain_by_layout : (rtype : ℕ) (layout : LayoutOf) (rdata : List ℕ) → layout_of rtype ≡ Some layout → Fills layout rdata → IsPlain rtype rdata
plain_by_layout rtype layout rdata is fills =
    let small = layout_of-small rtype layout is in
    record {
      short = omega (arith, fills-short layout rdata fills, small.before, small.names, small.behind);
      fills = subst (λ (l : Option LayoutOf). MatchOption l ⊤ (λ (one : LayoutOf). Fills one rdata)) (sym is) fills;
    }

pub filled_plain : (rtype : ℕ) (layout : LayoutOf) (read : Result (List ℕ) WireFault) → layout_of rtype ≡ Some layout → IfOk read (Fills layout) → IfOk read (IsPlain rtype)
filled_plain rtype layout (Ok rdata) is fills = plain_by_layout rtype layout rdata is fills
filled_plain rtype layout (Err fault) is fills = tt

-- data of a type without a layout are plain where they are short
pub plain_opaque : (rtype : ℕ) (rdata : List ℕ) → layout_of rtype ≡ None → length rdata ≤ 65535 → IsPlain rtype rdata
plain_opaque rtype rdata is short =
    record { short = short; fills = subst (λ (l : Option LayoutOf). MatchOption l ⊤ (λ (one : LayoutOf). Fills one rdata)) (sym is) tt }
