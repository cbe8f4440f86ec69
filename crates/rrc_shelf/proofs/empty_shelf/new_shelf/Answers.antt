-- SPDX-License-Identifier: MIT
use Rattle.std.proofs.Common.{[], false, ◌∙◌}
use Rattle.rrc_shelf.proofs.empty_shelf.new_shelf.Goals as goal

pub returns-clause-new : goal.returns-clause-new
returns-clause-new c =
    let told = c.in_ok-part.ensures in
    (c.in-Some.rules, c.in-Some.ensures.value, c.in_ok-new.ensures.ok ∙ c.new-2.ensures ∙ (λ i. record { records = false; shelf = record { closed = []; part = record { number = told.number i; snapshot = told.snapshot i; events = told.empty i } } }))
