-- SPDX-License-Identifier: MIT
use Rattle.std.proofs.Common.{rules, ◌≡◌, Bool, true, ◌||◌, sym, ap, ◌∙◌}
use Rattle.std.specs.Prelude.{nat_le, min, if◌then◌else◌}
use Rattle.std.specs.List.{list_any}
use Rattle.rrc_cache.specs.ExpiryQueue.{ExpiryQueueOf, expires_by, is_by}
use Rattle.rrc_cache.proofs.Due.{kept_or}
use Rattle.rrc_cache.proofs.Timed.{sooner}
use Rattle.rrc_cache.proofs.expiry_queue.ExpiryQueue.add.Goals as goal

pub returns-then-self : goal.returns-then-self
returns-then-self c = λ key time is.
    let now : ExpiryQueueOf = c.push.new.self in
    let was : ExpiryQueueOf = c.args.self.now in
    let kept : was.kept ≡ true = sym (ap (λ (d : ExpiryQueueOf). d.kept) c.self.view_is) ∙ c.if-self.true in
    (λ i. if c.push.ensures.kept i then list_any (is_by key time) now.waiting || list_any (is_by key time) now.due else nat_le (c.push.ensures.soonest i) time)
    ∙ (ap (λ b. if was.kept then b else nat_le was.soonest time) (c.push.ensures.one_more key time)
    ∙ (kept_or was.kept (is_by key time c.args.expiry) (list_any (is_by key time) was.waiting || list_any (is_by key time) was.due) (nat_le was.soonest time) kept
    ∙ is))

pub returns-else-self : goal.returns-else-self
returns-else-self c = λ key time is.
    let least : c.min-self-inside.result ≡ min c.self.inside.soonest c.args.expiry.time = search rules in
    let any : Bool = list_any (is_by key time) c.self.inside.waiting.data.items || list_any (is_by key time) c.self.inside.due.items in
    sooner key time c.self.inside.soonest c.min-self-inside.result c.args.expiry c.self.inside.is_kept any c.if-self.false least
    (ap (λ (d : ExpiryQueueOf). is_by key time c.args.expiry || expires_by d key time) c.self.view_is ∙ is)
