-- SPDX-License-Identifier: MIT
use Rattle.std.proofs.Common.{sym, ap, subst, length, ◌∙◌}
use Rattle.lru.specs.LruCache.{IsValid}
use Rattle.rrc_name.specs.Key.{key_eq}
use Rattle.rrc_cache.specs.Keyed.{KeyedOf}
use Rattle.rrc_cache.proofs.Plain.{long_plain, valid_plain}
use Rattle.rrc_cache.proofs.keyed.Keyed.len.Goals as goal

pub returns-clause-len : goal.returns-clause-len
returns-clause-len c = c.len.ensures.len ∙ (sym (long_plain c.self.inside.cache.entries) ∙ ap (λ (now : KeyedOf). length now.map.entries) c.self.view_is)

pub returns-clause-valid : goal.returns-clause-valid
returns-clause-valid c =
    subst (λ (now : KeyedOf). IsValid key_eq now.map) c.self.view_is (valid_plain c.self.inside.seeded c.self.inside.cache c.self.invariant c.len.ensures.valid)
