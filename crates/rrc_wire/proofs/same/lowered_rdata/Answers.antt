-- SPDX-License-Identifier: MIT
use Rattle.std.proofs.Common.{◌≡◌, ◌∙◌, List, ℕ, IfOk, Some, sym, ap, subst}
use Rattle.std.specs.Option.{option_map}
use Rattle.rrc_wire.specs.Layout.{layout_of}
use Rattle.rrc_wire.specs.Shown.{as_layout}
use Rattle.rrc_wire.specs.SameRdata.{lowered_rdata}
use Rattle.rrc_wire.proofs.LoweredParts.{plain_fills, lowered-plain, lowered-not_plain, lowered-no_layout}
use Rattle.rrc_wire.proofs.same.lowered_rdata.Goals as goal
use Rattle.rrc_wire.proofs.same.lowered_rdata.Goals.{in_default-via-in-Some+else-is_plain, in_default-via-in_default}

pub lowered_by-requires : goal.lowered_by-requires
lowered_by-requires c =
    plain_fills c.args.rtype (as_layout c.in-Some.layout) c.args.octets.now (sym c.layout_of.ensures ∙ ap (option_map as_layout) c.in-Some.is) (sym c.is_plain.ensures ∙ c.if-is_plain.true)

pub returns-in-Some : goal.returns-in-Some
returns-in-Some c =
    let is : layout_of c.args.rtype ≡ Some (as_layout c.in-Some.layout) = sym c.layout_of.ensures ∙ ap (option_map as_layout) c.in-Some.is in
    let low = lowered-plain c.args.rtype (as_layout c.in-Some.layout) c.args.octets.now is (sym c.is_plain.ensures ∙ c.if-is_plain.true) in
    subst (λ (octets : List ℕ). IfOk c.lowered_by.result (λ lowered. lowered ≡ octets)) (sym low) c.lowered_by.ensures

pub returns-in_default : goal.returns-in_default
returns-in_default c =
    let low : lowered_rdata c.args.rtype c.args.octets.now ≡ c.args.octets.now =
    elim c.in_default.branch [
      | in_default-via-in-Some+else-is_plain w ↦ lowered-not_plain c.args.rtype c.args.octets.now (sym w.is_plain.ensures ∙ w.if-is_plain.false)
      | in_default-via-in_default w ↦ lowered-no_layout c.args.rtype c.args.octets.now (sym c.layout_of.ensures ∙ ap (option_map as_layout) w.in_default.is)
    ] in
    subst (λ (octets : List ℕ). IfOk c.from_slice.result (λ copy. copy ≡ octets)) (sym low) c.from_slice.ensures
