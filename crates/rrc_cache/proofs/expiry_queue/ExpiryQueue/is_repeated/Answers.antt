-- SPDX-License-Identifier: MIT
use Rattle.std.proofs.Common.{◌≡◌, ◌-◌, ◌||◌, List, Some, length, true, sym, ap, ◌∙◌}
use Rattle.std.specs.Prelude.{nat_le}
use Rattle.std.specs.List.{list_any, slice_get}
use Rattle.std.specs.Option.{option_copied}
use Rattle.rrc_cache.specs.declared.expiry_queue.Expiry.{Expiry}
use Rattle.rrc_cache.specs.ExpiryQueue.{ExpiryQueueOf, expires_by, is_by}
use Rattle.rrc_cache.proofs.Timed.{any_at, either, is_by-before, where_kept}
use Rattle.rrc_cache.proofs.expiry_queue.ExpiryQueue.is_repeated.Goals as goal

pub returns-then-self : goal.returns-then-self
returns-then-self c = λ repeats key time is.
    let due : List Expiry = c.self.inside.due.items in
    let last : Expiry = c.in-Some.last.now in
    let there : slice_get due (length due - 1) ≡ Some last =
    ap (λ (expiries : List Expiry). slice_get expiries (length expiries - 1)) (sym c.as_slice.ensures.value) ∙ (sym c.last.ensures.value ∙ ap option_copied c.in-Some.is) in
    let by : is_by key time last ≡ true = is_by-before key time last c.args.expiry.now (sym c.is_before.ensures ∙ repeats) is in
    sym (ap (λ (d : ExpiryQueueOf). expires_by d key time) c.self.view_is)
    ∙ where_kept c.self.inside.is_kept (list_any (is_by key time) c.self.inside.waiting.data.items || list_any (is_by key time) due) (nat_le c.self.inside.soonest time) c.if-self.true
    (either (list_any (is_by key time) c.self.inside.waiting.data.items) (list_any (is_by key time) due) (any_at (is_by key time) due (length due - 1) last there by))
