-- SPDX-License-Identifier: MIT
use Rattle.std.proofs.Common.{◌≡◌, ◌∙◌}
use Rattle.rrc_name.specs.Images.{image_of}
use Rattle.rrc_history.specs.lemmas.ImagesWhole.{image-fits}
use Rattle.rrc_history.proofs.images.offer_of.Goals as goal

pub invariant_of-result : goal.invariant_of-result
invariant_of-result c =
    let key : c.in_ok-image.field-0 ≡ image_of c.offer.inside.key = c.in_ok-image.ensures in
    let body : c.in_ok-clone.field-0 ≡ c.offer.inside.body = c.in_ok-clone.ensures.cases in
    rw (key, body) (image-fits c.offer.inside.key c.offer.inside.body ∙ c.offer.invariant)
