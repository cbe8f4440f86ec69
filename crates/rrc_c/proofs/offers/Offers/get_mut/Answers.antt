-- SPDX-License-Identifier: MIT
use Rattle.std.proofs.Common.{◌∙◌}
use Rattle.rrc_c.specs.Boxed.{offers_of_boxed}
use Rattle.rrc_shelf.specs.contracts.reading.Reading.{the_row as T}
use Rattle.rrc_c.proofs.SameMemory.{same_lent}
use Rattle.rrc_c.proofs.offers.Offers.get_mut.Goals as goal

pub returns : goal.returns
returns c = (same_lent T offers_of_boxed c.get_mut.result c.boxed.ensures.value, record { writes_back = tt; value = c.get_mut.ensures.value ∙ (λ i. (c.boxed.ensures.value i).content.held) })
