-- SPDX-License-Identifier: MIT
use Rattle.std.proofs.Common.{List, ap, ◌∙◌}
use Rattle.std.specs.List.{list_any}
use Rattle.rrc_history.specs.declared.snapshot.Entry.{Entry}
use Rattle.rrc_cache.specs.declared.expiry_queue.Expiry.{Expiry}
use Rattle.rrc_cache.specs.ExpiryQueue.{expiries_of, is_by}
use Rattle.rrc_cache.proofs.Timed.{all_queued}
use Rattle.rrc_cache.proofs.expiries.keep_expiries.Goals as goal

pub returns-in_ok-expiries_of-clause-queued : goal.returns-in_ok-expiries_of-clause-queued
returns-in_ok-expiries_of-clause-queued c = λ was.
    all_queued c.args.stale c.args.map.now.entries c.of.result
    (λ key time. c.of.ensures.expiries key time ∙ (ap (λ (expiries : List Expiry). list_any (is_by key time) expiries) c.in_ok-expiries_of.ensures
    ∙ ap (λ (es : List Entry). list_any (is_by key time) (expiries_of c.args.stale es)) c.held.ensures))
