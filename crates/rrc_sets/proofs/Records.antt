-- SPDX-License-Identifier: MIT
-- What is known of a section's records is known of what is made of them.
use Rattle.std.proofs.Common.{◌≡◌, ℕ, ◌≤◌, Bool, true, false, cond, not, ◌&&◌, ◌==◌, List, [], ◌∷◌, ◌++◌, length, Some, None, refl, sym, ap, subst, ◌∙◌, arith, length-append}
use Rattle.std.specs.List.{AllByRecursion, concat, list_any}
use Rattle.std.proofs.lemmas.List.{append-nil}
use Rattle.rrc_name.specs.declared.slot.Slot.{Slot}
use Rattle.rrc_name.specs.declared.slot.Slot.TheVariants.{Set, Nx}
use Rattle.rrc_name.specs.Wire.{IsWireForm, same_name}
use Rattle.rrc_wire.specs.declared.message.Message.{Message}
use Rattle.rrc_wire.specs.Layout.{layout_of, is_kept}
use Rattle.rrc_wire.specs.Plain.{IsPlain}
use Rattle.rrc_sets.specs.Aliases.{is_of}
use Rattle.rrc_sets.specs.Denials.{denied}
use Rattle.rrc_sets.specs.Kept.{HasKeptType}

-- ---- data of a type

only_name : (before : List ℕ) (names : List (List ℕ)) (behind octets : List ℕ) → length before ≡ 0 → length names ≡ 1 → AllByRecursion IsWireForm names → length behind ≡ 0
    → before ++ (concat names ++ behind) ≡ octets → IsWireForm octets
only_name (octet ∷ before) names behind octets none one all end whole = absurd (omega arith)
only_name [] [] behind octets none one all end whole = absurd (omega arith)
only_name [] (name ∷ []) [] octets none one all end whole =
    subst IsWireForm (sym (append-nil (name ++ []) ∙ append-nil name) ∙ whole) all.0
only_name [] (name ∷ []) (octet ∷ behind) octets none one all end whole = absurd (omega arith)
only_name [] (name ∷ other ∷ names) behind octets none one all end whole = absurd (omega arith)

-- the data of a CNAME record are a name
pub alias_is_name : (rtype : ℕ) (rdata : List ℕ) → rtype ≡ 5 → IsPlain rtype rdata → IsWireForm rdata
unfolding layout_of
alias_is_name rtype rdata is plain =
    let fills : IsPlain 5 rdata = subst (λ t. IsPlain t rdata) is plain in
    let parts = fills.fills.parts in let are = fills.fills.are_parts in
    only_name parts.before parts.names parts.behind rdata are.before are.names are.wire_forms are.behind fills.fills.whole

-- those of a SOA record have MINIMUM at their end
pub soa_is_long : (rtype : ℕ) (rdata : List ℕ) → rtype ≡ 6 → IsPlain rtype rdata → 4 ≤ length rdata
unfolding layout_of
soa_is_long rtype rdata is plain =
    let fills : IsPlain 6 rdata = subst (λ t. IsPlain t rdata) is plain in
    let parts = fills.fills.parts in
    omega (arith, ap length fills.fills.whole, length-append parts.before (concat parts.names ++ parts.behind), length-append (concat parts.names) parts.behind, fills.fills.are_parts.behind)

-- ---- what is denied

slot_is : (a b : Slot) → Some a ≡ Some b → a ≡ b
slot_is a b e = cc

name_kept : (class : ℕ) (owned : Bool) (slot : Slot) → cond owned None (Some Nx) ≡ Some slot → HasKeptType class slot
name_kept class true slot is = absurd cc
name_kept class false slot is = subst (HasKeptType class) (slot_is Nx slot is) tt

type_kept : (rtype class : ℕ) (kept none : Bool) (slot : Slot) → is_kept rtype class ≡ kept → cond (kept && none) (Some (Set rtype)) None ≡ Some slot
    → HasKeptType class slot
type_kept rtype class true true slot kept is = subst (HasKeptType class) (slot_is (Set rtype) slot is) kept
type_kept rtype class true false slot kept is = absurd cc
type_kept rtype class false none slot kept is = absurd cc

-- a type that is denied is kept
pub denied_kept_type : (message : Message) (name : List ℕ) (slot : Slot) → denied message name ≡ Some slot → HasKeptType message.question.qclass slot
denied_kept_type message name slot = by (message.rcode == 3)
  where
    rtype : ℕ
    rtype = message.question.qtype

    class : ℕ
    class = message.question.qclass

    owned : Bool
    owned = list_any (λ rr. same_name rr.owner name) message.answer

    none : Bool
    none = not (list_any (is_of rtype name) message.answer)

    by : (nx : Bool) → cond nx (cond owned None (Some Nx)) (cond (is_kept rtype class && none) (Some (Set rtype)) None) ≡ Some slot → HasKeptType class slot
    by true is = name_kept class owned slot is
    by false is = type_kept rtype class (is_kept rtype class) none slot refl is
