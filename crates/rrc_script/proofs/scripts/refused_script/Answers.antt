-- SPDX-License-Identifier: MIT
use Rattle.std.proofs.Common.{◌≡◌, refl, arith, rules}
use Rattle.rrc_wire.specs.Fault.{number_of}
use Rattle.rrc_wire.specs.FirstFault.{FirstFault}
use Rattle.rrc_script.proofs.Scripted.{one_number}
use Rattle.rrc_script.proofs.scripts.refused_script.Goals as goal

pub returns-clause-none : goal.returns-clause-none
returns-clause-none c = λ has.
    let first : FirstFault c.args.response.now.octets c.in-Some.fault = search rules in
    let same : c.args.number ≡ number_of c.in-Some.fault =
    one_number c.one_message_or_fault.ensures c.args.response.now.octets c.args.number (number_of c.in-Some.fault) has (c.in-Some.fault, (first, refl)) in
    omega (arith, same, c.number.ensures, c.if-number.false)
