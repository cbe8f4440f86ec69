-- SPDX-License-Identifier: MIT
use Rattle.std.proofs.Common.{subst, inl, inr}
use Rattle.std.proofs.lemmas.Result.{err_from_is_err_and}
use Rattle.rrc_wire.specs.Chain.{PointsTo}
use Rattle.rrc_wire.proofs.Pointed.{pointed-Ok, pointed-Err}
use Rattle.rrc_wire.proofs.name.read_name.Goals as goal

pub returns-in_err-name_standing_at-in-Some-clause-gives : goal.returns-in_err-name_standing_at-in-Some-clause-gives
returns-in_err-name_standing_at-in-Some-clause-gives c =
    let message = c.args.source.now in let target = c.in-Some.target in let fault = c.in_err-name_standing_at-in-Some.field-0.0 in
    let to : PointsTo message c.args.place target = subst (λ octets. PointsTo octets c.args.place target) c.message.ensures c.in-Some.ensures in
    let exit = err_from_is_err_and c.from_residual.result c.from_residual.ensures.1 in
    rw (exit.1, exit.2) (elim (c.in_err-name_standing_at-in-Some.ensures.gives) [
      | inl refused ↦ inl refused
      | inr first ↦ inr (pointed-Err message c.args.place target fault to first)
    ])

pub returns-in_ok-name_standing_at-in-Some-clause-gives : goal.returns-in_ok-name_standing_at-in-Some-clause-gives
returns-in_ok-name_standing_at-in-Some-clause-gives c =
    let message = c.args.source.now in let target = c.in-Some.target in
    let to : PointsTo message c.args.place target = subst (λ octets. PointsTo octets c.args.place target) c.message.ensures c.in-Some.ensures in
    pointed-Ok message c.args.place target c.in_ok-name_standing_at-in-Some.field-0 to c.in_ok-name_standing_at-in-Some.ensures.gives
