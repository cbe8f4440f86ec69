-- SPDX-License-Identifier: MIT
use Rattle.std.proofs.Common.{subst}
use Rattle.rrc_cache.specs.declared.seeded.Seeded.{Seeded}
use Rattle.rrc_cache.specs.NegativeFilter.{AreMarked, filter_of}
use Rattle.rrc_cache.proofs.filtered_entries.renew_worn.Goals as goal

pub returns-then-is_worn : goal.returns-then-is_worn
returns-then-is_worn c = λ old.
    subst (λ (seeded : Seeded). AreMarked (filter_of seeded c.mark_anew.new.filter) c.args.map.now.entries) c.seeded.ensures
    (subst (AreMarked (filter_of c.seeded.result c.mark_anew.new.filter)) c.held.ensures c.mark_anew.ensures)
