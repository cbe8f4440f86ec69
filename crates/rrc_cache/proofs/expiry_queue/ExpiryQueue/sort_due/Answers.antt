-- SPDX-License-Identifier: MIT
use Rattle.std.proofs.Common.{◌||◌, sym, ap, ◌∙◌}
use Rattle.std.specs.Prelude.{nat_le, if◌then◌else◌}
use Rattle.std.specs.List.{list_any}
use Rattle.std.proofs.lemmas.List.Sorted.{list_any-IsPermutation}
use Rattle.rrc_cache.specs.ExpiryQueue.{ExpiryQueueOf, expires_by, is_by}
use Rattle.rrc_cache.proofs.expiry_queue.ExpiryQueue.sort_due.Goals as goal

pub returns : goal.returns
returns c = λ key time.
    ap (λ b. if c.self.inside.is_kept then list_any (is_by key time) c.self.inside.waiting.data.items || b else nat_le c.self.inside.soonest time) (sym (list_any-IsPermutation (is_by key time) _ _ c.sort_unstable_by.ensures.permutation))
    ∙ ap (λ (d : ExpiryQueueOf). expires_by d key time) c.self.view_is
