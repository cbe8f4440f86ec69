-- SPDX-License-Identifier: MIT
use Rattle.std.proofs.Common.{◌≡◌, ◌+◌, ◌-◌, ◌∙◌, length, sym, subst, arith}
use Rattle.std.proofs.lemmas.Result.{err_from_is_err_and}
use Rattle.rrc_name.proofs.WireReading.{IsRead, nothing_read, label_read, end_read, fault_read, is_end, read_few, read_within, small_from_each}
use Rattle.rrc_name.proofs.wire.test_wire_form.Goals as goal

pub loop-rest-init : goal.loop-rest-init
loop-rest-init c = nothing_read c.args.octets.now (small_from_each c.args.octets.now (λ i. omega (arith, c.type_inv.octets i)))

pub behind_label-requires-clause-few : goal.behind_label-requires-clause-few
behind_label-requires-clause-few c = omega (arith, read_few c.args.octets.now c.loop-rest.rest.now c.loop-rest.invariant)

pub returns-in_err-rest-clause-err : goal.returns-in_err-rest-clause-err
returns-in_err-rest-clause-err c =
    let octets = c.args.octets.now in let rest = c.loop-rest.rest.now in
    let many : (length octets - length rest) + length rest ≡ length octets = omega (arith, read_within octets rest c.loop-rest.invariant) in
    let first = fault_read octets rest (length octets - length rest) c.in_err-rest.field-0.0 c.loop-rest.invariant many c.in_err-rest.ensures.err in
    let exit = err_from_is_err_and c.from_residual.result c.from_residual.ensures.1 in
    rw (exit.1, exit.2) first

pub loop-rest-preserved : goal.loop-rest-preserved
loop-rest-preserved c =
    let octets = c.args.octets.now in let rest = c.loop-rest.rest.now in
    let many : (length octets - length rest) + length rest ≡ length octets = omega (arith, read_within octets rest c.loop-rest.invariant) in
    label_read octets rest c.in_ok-rest.rest.now (length octets - length rest) c.loop-rest.invariant many c.in_ok-rest.ensures.ok

pub returns-clause-ok : goal.returns-clause-ok
returns-clause-ok c =
    let ends = is_end c.loop-rest.rest.now c.as_slice.result.now (sym c.ne.ensures ∙ c.loop-rest-test.false) c.as_slice.ensures in
    end_read c.args.octets.now (subst (λ r. IsRead c.args.octets.now r) ends c.loop-rest.invariant)
