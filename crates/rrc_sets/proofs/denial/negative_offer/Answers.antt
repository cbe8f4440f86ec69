-- SPDX-License-Identifier: MIT
use Rattle.std.proofs.Common.{rules, ◌≡◌, false, sym, ap, subst, ◌∙◌}
use Rattle.rrc_name.specs.Key.{KeyOf}
use Rattle.rrc_history.specs.Fits.{fits, is_failed}
use Rattle.rrc_sets.specs.Denials.{denial, negative_offer}
use Rattle.rrc_sets.specs.Kept.{HasKeptType, HasPlainData}
use Rattle.rrc_sets.proofs.Fitting.{denied-kept, fits-denial}
use Rattle.rrc_sets.proofs.Records.{denied_kept_type}
use Rattle.rrc_sets.proofs.denial.negative_offer.Goals as goal

pub invariant_of-result : goal.invariant_of-result
invariant_of-result c =
    let message = c.args.response.message.now in let name = c.in-Some.name in let key = c.in_ok-key.key in
    let kept : is_failed key.slot ≡ false =
    ap (λ (k : KeyOf). is_failed k.slot) c.in_ok-key.ensures ∙ denied-kept message name c.in-Some-denied.slot (sym c.in-Some-denied.ensures) in
    ap (fits key) c.in_ok-body.ensures.value ∙ ap (λ ttl. fits key (denial message ttl name c.in-Some-soa_of.soa.now)) c.negative_life-ttl.ensures.value ∙ fits-denial message c.args.response.limits.now name c.in-Some-soa_of.soa.now key kept

pub returns-clause-kept : goal.returns-clause-kept
returns-clause-kept c =
    let slot = c.in-Some-denied.slot in
    record {
      kept_type = subst (λ (k : KeyOf). HasKeptType k.class k.slot) (sym c.in_ok-key.ensures) (denied_kept_type c.args.response.message.now c.in-Some.name slot (sym c.in-Some-denied.ensures));
      plain_data = subst (HasPlainData c.in_ok-key.key.slot) (sym c.in_ok-body.ensures.value) c.in_ok-body.ensures.plain;
    }

pub returns-clause-value : goal.returns-clause-value
unfolding negative_offer
returns-clause-value c = search rules fits 300
