-- SPDX-License-Identifier: MIT
use Rattle.std.proofs.Common.{◌<◌, ◌-◌, ◌||◌, ◌∷◌, List, sym, ap, subst, ◌∙◌, arith}
use Rattle.std.specs.BinaryHeap.{heap_capacity, heap_len}
use Rattle.std.specs.List.{list_any}
use Rattle.std.specs.List.Sorted.{IsPermutation}
use Rattle.rrc_cache.specs.declared.expiry_queue.Expiry.{Expiry}
use Rattle.rrc_cache.specs.ExpiryQueue.{ExpiryQueueOf, is_by}
use Rattle.rrc_cache.proofs.Due.{any_pushed, at_ok}
use Rattle.rrc_cache.proofs.expiry_queue.ExpiryQueue.push.Goals as goal

pub returns-clause-one_more : goal.returns-clause-one_more
returns-clause-one_more c = λ key time.
    let waiting : List Expiry = c.self.inside.waiting.data.items in
    let pushed : List Expiry = c.push.new.self.data.items in
    let room : 0 < heap_capacity c.self.inside.waiting - heap_len c.self.inside.waiting =
    subst (λ (d : ExpiryQueueOf). 0 < d.room) (sym c.self.view_is) c.requires in
    let less : heap_len c.self.inside.waiting < heap_capacity c.self.inside.waiting = omega (arith, room) in
    let moves : IsPermutation (c.args.expiry ∷ waiting) pushed =
    at_ok c.push.result (IsPermutation (c.args.expiry ∷ waiting) pushed) (c.push.ensures.succeeds less) c.push.ensures.permutation in
    any_pushed (is_by key time) c.args.expiry waiting pushed c.self.inside.due.items moves
    ∙ ap (λ (d : ExpiryQueueOf). is_by key time c.args.expiry || (list_any (is_by key time) d.waiting || list_any (is_by key time) d.due)) c.self.view_is
