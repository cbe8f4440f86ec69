-- SPDX-License-Identifier: MIT
use Rattle.std.proofs.Common.{subst, rules}
use Rattle.rrc_wire.specs.FirstFault.{FirstFault}
use Rattle.rrc_script.proofs.Scripted.{not_both}
use Rattle.rrc_script.proofs.scripts.response_script.Goals as goal

pub returns-in-Err-clause-none : goal.returns-in-Err-clause-none
returns-in-Err-clause-none c =
    let first : FirstFault c.as_slice-octets.result.now c.in-Err.field-0 = search rules in
    λ script responds.
    not_both c.one_message_or_fault.ensures c.args.response.now.octets responds.brought.message c.in-Err.field-0 responds.brought.begins
    (subst (λ octets. FirstFault octets c.in-Err.field-0) c.as_slice-octets.ensures first)
