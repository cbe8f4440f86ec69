-- SPDX-License-Identifier: MIT
use Rattle.std.proofs.Common.{ap, ◌∙◌}
use Rattle.rrc_cache.specs.Keyed.{KeyedOf, plain}
use Rattle.rrc_cache.specs.Pairs.{entries_in}
use Rattle.rrc_cache.proofs.Plain.{held_plain}
use Rattle.rrc_cache.proofs.keyed.Keyed.held.Goals as goal

pub returns : goal.returns
returns c =
    held_plain c.held.result.now.entries
    ∙ (ap (λ pairs. entries_in (plain pairs)) c.held.ensures ∙ ap (λ (now : KeyedOf). entries_in now.map.entries) c.self.view_is)
