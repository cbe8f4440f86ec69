-- SPDX-License-Identifier: MIT
use Rattle.std.proofs.Common.{◌||◌, ◌∷◌, ◌++◌, [], List, ap, ◌∙◌}
use Rattle.std.specs.Prelude.{nat_le, if◌then◌else◌}
use Rattle.std.specs.List.{list_any}
use Rattle.rrc_cache.specs.declared.expiry_queue.Expiry.{Expiry}
use Rattle.rrc_cache.specs.ExpiryQueue.{ExpiryQueueOf, expires_by, is_by}
use Rattle.rrc_cache.proofs.Due.{any_moved}
use Rattle.rrc_cache.proofs.expiry_queue.ExpiryQueue.move_first.Goals as goal

pub returns-in-Some-clause-same : goal.returns-in-Some-clause-same
returns-in-Some-clause-same c = λ key time.
    let popped : List Expiry = c.pop.new.self.data.items in
    let first : Expiry = c.in-Some.first in
    ap (λ b. if c.self.inside.is_kept then b else nat_le c.self.inside.soonest time)
    (ap (λ due. list_any (is_by key time) popped || list_any (is_by key time) due)
    (c.push_reserved.ensures.items ∙ ap (λ (due : List Expiry). due ++ first ∷ []) c.reserve.ensures.items)
    ∙ any_moved (is_by key time) first c.self.inside.waiting.data.items popped c.self.inside.due.items c.in-Some.ensures.permutation)
    ∙ ap (λ (d : ExpiryQueueOf). expires_by d key time) c.self.view_is
