-- SPDX-License-Identifier: MIT
use Rattle.std.proofs.Common.{◌≡◌, ◌∙◌, inl, inr, sym, ap, refl, Decides}
use Rattle.std.specs.Option.{option_map}
use Rattle.rrc_wire.specs.Shown.{as_layout}
use Rattle.rrc_wire.specs.SameRdata.{IsSameRdata}
use Rattle.rrc_wire.proofs.LoweredParts.{plain_fills, plain-Decides, not_plain-Decides, opaque-Decides, same_rdata-told, slices-Decides}
use Rattle.rrc_wire.proofs.same.same_rdata.Goals as goal
use Rattle.rrc_wire.proofs.same.same_rdata.Goals.{in_default-via-in-Some+then-is_plain+else-is_plain-2, in_default-via-in-Some+else-is_plain, in_default-via-in_default}

pub has_same_parts-requires-clause-a_fills : goal.has_same_parts-requires-clause-a_fills
has_same_parts-requires-clause-a_fills c =
    plain_fills c.args.rtype (as_layout c.in-Some.layout) c.args.a.now (sym c.layout_of.ensures ∙ ap (option_map as_layout) c.in-Some.is) (sym c.is_plain.ensures ∙ c.if-is_plain.true)

pub has_same_parts-requires-clause-b_fills : goal.has_same_parts-requires-clause-b_fills
has_same_parts-requires-clause-b_fills c =
    plain_fills c.args.rtype (as_layout c.in-Some.layout) c.args.b.now (sym c.layout_of.ensures ∙ ap (option_map as_layout) c.in-Some.is) (sym c.is_plain-then-is_plain.ensures ∙ c.if-is_plain-2.true)

pub returns-in-Some-clause-meaning : goal.returns-in-Some-clause-meaning
returns-in-Some-clause-meaning c =
    plain-Decides c.args.rtype (as_layout c.in-Some.layout) c.args.a.now c.args.b.now (sym c.layout_of.ensures ∙ ap (option_map as_layout) c.in-Some.is) (sym c.is_plain.ensures ∙ c.if-is_plain.true)
    (sym c.is_plain-then-is_plain.ensures ∙ c.if-is_plain-2.true) c.has_same_parts.result c.has_same_parts.ensures

pub returns-in-Some-clause-value : goal.returns-in-Some-clause-value
returns-in-Some-clause-value c = same_rdata-told c.args.rtype c.args.a.now c.args.b.now c.has_same_parts.result (returns-in-Some-clause-meaning c)

pub returns-in_default-clause-meaning : goal.returns-in_default-clause-meaning
returns-in_default-clause-meaning c =
    let a = c.args.a.now in let b = c.args.b.now in let r = c.eq.result in
    let equal : Decides r (a ≡ b) = slices-Decides r a b a b c.eq.ensures refl refl in
    let told : Decides r (IsSameRdata c.args.rtype a b) =
    elim c.in_default.branch [
      | in_default-via-in-Some+then-is_plain+else-is_plain-2 w ↦ not_plain-Decides c.args.rtype a b (inr (sym w.is_plain-then-is_plain.ensures ∙ w.if-is_plain-2.false)) r equal
      | in_default-via-in-Some+else-is_plain w ↦ not_plain-Decides c.args.rtype a b (inl (sym w.is_plain.ensures ∙ w.if-is_plain.false)) r equal
      | in_default-via-in_default w ↦ opaque-Decides c.args.rtype a b (sym c.layout_of.ensures ∙ ap (option_map as_layout) w.in_default.is) r equal
    ] in
    told

pub returns-in_default-clause-value : goal.returns-in_default-clause-value
returns-in_default-clause-value c = same_rdata-told c.args.rtype c.args.a.now c.args.b.now c.eq.result (returns-in_default-clause-meaning c)
