-- SPDX-License-Identifier: MIT
use Rattle.std.proofs.Common.{◌≢◌, ⊎_elim, ◌∙◌, subst, rules}
use Rattle.rrc_wire.specs.Plain.{IsPlain}
use Rattle.rrc_wire.specs.declared.fault.WireFault.TheVariants.{Memory}
use Rattle.rrc_trace.proofs.ItemLemmas.{says_item, says_no_item}
use Rattle.rrc_trace.proofs.read.item.item_in.Goals as goal

pub returns-in-Ok : goal.returns-in-Ok
returns-in-Ok c =
    says_item c.args.rtype c.args.piece.now c.in_ok-octets.octets c.in-Ok.item c.in_ok-octets.ensures (c.in-Ok.ensures.ok ∙ c.as_slice.ensures)
    (subst (IsPlain c.args.rtype) c.as_slice.ensures c.in-Ok.ensures.plain)

pub returns : goal.returns
returns c =
    let no_memory : c.in-Err.field-0 ≢ Memory = λ memory. absurd (search rules) in
    let not_plain : ¬ IsPlain c.args.rtype c.as_slice.result.now = ⊎_elim (λ memory. absurd (no_memory memory)) (λ bad. bad.1) c.in-Err.ensures.err in
    says_no_item c.args.rtype c.args.piece.now c.in_ok-octets.octets c.in_ok-octets.ensures
    (subst (λ octets. ¬ IsPlain c.args.rtype octets) c.as_slice.ensures not_plain)
