-- SPDX-License-Identifier: MIT
use Rattle.std.proofs.Common.{◌||◌, List, sym, ap, ◌∙◌}
use Rattle.std.specs.List.{list_any}
use Rattle.std.proofs.lemmas.List.Sorted.{list_any-IsPermutation}
use Rattle.rrc_cache.specs.declared.expiry_queue.Expiry.{Expiry}
use Rattle.rrc_cache.specs.ExpiryQueue.{is_by}
use Rattle.rrc_cache.proofs.Due.{or_none}
use Rattle.rrc_cache.proofs.expiry_queue.ExpiryQueue.of.Goals as goal

pub returns-clause-expiries : goal.returns-clause-expiries
returns-clause-expiries c = λ key time.
    let waiting : List Expiry = c.from.result.data.items in
    ap (λ due. list_any (is_by key time) waiting || list_any (is_by key time) due) c.new.ensures.items
    ∙ (or_none (list_any (is_by key time) waiting) ∙ sym (list_any-IsPermutation (is_by key time) c.args.queue.items waiting c.from.ensures.1))
