-- SPDX-License-Identifier: MIT
use Rattle.std.proofs.Common.{◌≡◌, Bool, false, ◌||◌, sym, ap, ◌∙◌}
use Rattle.std.specs.Prelude.{min}
use Rattle.std.specs.List.{list_any}
use Rattle.rrc_cache.specs.ExpiryQueue.{ExpiryQueueOf, expires_by, is_by}
use Rattle.rrc_cache.proofs.Timed.{sooner}
use Rattle.rrc_cache.proofs.expiry_queue.ExpiryQueue.note.Goals as goal

pub returns : goal.returns
returns c = λ expiry timed key time is.
    let kept : c.self.inside.is_kept ≡ false = ap (λ (d : ExpiryQueueOf). d.kept) c.self.view_is ∙ c.requires in
    let least : c.min-self-inside.result ≡ min c.self.inside.soonest expiry.time = c.min-self-inside.ensures ∙ ap (min c.self.inside.soonest) (sym timed) in
    let any : Bool = list_any (is_by key time) c.self.inside.waiting.data.items || list_any (is_by key time) c.self.inside.due.items in
    sooner key time c.self.inside.soonest c.min-self-inside.result expiry c.self.inside.is_kept any kept least
    (ap (λ (d : ExpiryQueueOf). is_by key time expiry || expires_by d key time) c.self.view_is ∙ is)
