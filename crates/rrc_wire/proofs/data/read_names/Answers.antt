-- SPDX-License-Identifier: MIT
use Rattle.std.proofs.Common.{◌≡◌, ◌++◌, length, Ok, refl, sym, ap, ◌∙◌, arith, inl, inr}
use Rattle.std.proofs.lemmas.Result.{err_from_is_err_and}
use Rattle.rrc_wire.specs.Reading.{times}
use Rattle.rrc_wire.specs.Name.{name_at}
use Rattle.rrc_wire.specs.Data.{name_in_data}
use Rattle.rrc_wire.proofs.Filling.{fills_first, fills_name}
use Rattle.rrc_wire.proofs.Pieces.{times-more, times-Err}
use Rattle.rrc_wire.proofs.data.read_names.Goals as goal

pub returns-in_err-name-clause-gives : goal.returns-in_err-name-clause-gives
returns-in_err-name-clause-gives c =
    let message = c.args.source.now in let fault = c.in_err-name.field-0.0 in
    let exit = err_from_is_err_and c.from_residual.result c.from_residual.ensures.1 in
    rw (exit.1, exit.2) (elim (c.in_err-name.ensures.gives) [
      | inl refused ↦ inl refused
      | inr first ↦ inr (sym c.loop.invariant.left ∙ times-Err (name_in_data message c.args.end) c.args.names c.loop.counter c.loop.before c.loop.next fault c.loop-test.true
          (ap (λ octets. name_in_data octets c.args.end c.loop.next) (sym c.loop.invariant.unchanged) ∙ ap (name_at c.loop.source) (sym c.in_data.ensures) ∙ first))
    ])

pub loop-init : goal.loop-init
loop-init c = record { unchanged = refl; left = ap (λ n. times (name_in_data c.args.source.now c.args.end) n c.args.before c.args.place) (omega arith); fills = fills_first (length c.args.before) c.args.before refl }

pub loop-preserved : goal.loop-preserved
loop-preserved c =
    let message = c.args.source.now in let name = c.in_ok-name.name in
    let read : name_in_data message c.args.end c.loop.next ≡ Ok (name, c.in_ok-name.behind) =
    ap (λ octets. name_in_data octets c.args.end c.loop.next) (sym c.loop.invariant.unchanged) ∙ ap (name_at c.loop.source) (sym c.in_data.ensures) ∙ c.in_ok-name.ensures.gives in
    let octets : c.extend_from_slice.new.self ≡ c.loop.before ++ name =
    c.in_ok-extend_from_slice.ensures.ok ∙ ap (λ n. c.loop.before ++ n) c.as_slice.ensures in
    rw octets (record {
      unchanged = c.read_wire.ensures.same ∙ c.loop.invariant.unchanged;
      left = sym (times-more (name_in_data message c.args.end) c.args.names c.loop.counter c.loop.before c.loop.next (name, c.in_ok-name.behind) c.loop-test.true read) ∙ c.loop.invariant.left;
      fills = fills_name (length c.args.before) c.loop.counter c.loop.before name c.loop.invariant.fills c.in_ok-name.ensures.wire_form;
    })
