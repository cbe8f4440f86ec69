-- SPDX-License-Identifier: MIT
use Rattle.std.proofs.Common.{sym, ap, ◌∙◌}
use Rattle.std.specs.Cmp.{IsEquivalence, on_equiv}
use Rattle.rrc_name.specs.lemmas.KeyLaws.{slot_eq-laws}
use Rattle.rrc_history.specs.Fits.{OfferOf}
use Rattle.rrc_sets.specs.Gathering.{with_value}
use Rattle.rrc_sets.specs.Relevant.{same_type}
use Rattle.rrc_sets.proofs.Growing.{uniques-push}
use Rattle.rrc_sets.proofs.relevant.first_of_each_type.Goals as goal

same_type-laws : IsEquivalence same_type
same_type-laws = on_equiv (λ (offer : OfferOf). offer.key.slot) slot_eq-laws

pub loop-offer-preserved : goal.loop-offer-preserved
loop-offer-preserved c =
    c.in_ok-add_first.ensures
    ∙ (ap (λ offers. with_value same_type offers c.in-Some.offer) c.loop-offer.invariant
    ∙ sym (uniques-push same_type same_type-laws c.loop-offer.yielded c.in-Some.offer))
