-- SPDX-License-Identifier: MIT
use Rattle.std.proofs.Common.{◌∙◌, sym}
use Rattle.std.proofs.lemmas.List.Filters.{dedup_is}
use Rattle.std.proofs.lemmas.List.Kept.{IsStrictlySortedBy-dedup}
use Rattle.std.proofs.lemmas.List.Sorted.{list_any-IsPermutation}
use Rattle.rrc_name.specs.Key.{key_eq}
use Rattle.rrc_name.specs.lemmas.KeyLaws.{key_order-total, key_order-ties}
use Rattle.rrc_cache.proofs.Sweeping.{among-dedup}
use Rattle.rrc_cache.proofs.sweep.put_in_order.Goals as goal

pub returns-clause-sorted : goal.returns-clause-sorted
returns-clause-sorted c =
    rw (dedup_is _ _ _ c.dedup.ensures.filtered) (IsStrictlySortedBy-dedup key_order-total key_order-ties _ c.sort_unstable.ensures.sorted)

pub returns-clause-same : goal.returns-clause-same
returns-clause-same c =
    λ key. rw (dedup_is _ _ _ c.dedup.ensures.filtered)
    (among-dedup key _ ∙ sym (list_any-IsPermutation (key_eq key) _ _ c.sort_unstable.ensures.permutation))
