-- SPDX-License-Identifier: MIT
use Rattle.std.proofs.Common.{◌≡◌, ◌-◌, length, take, sym, ap, ◌∙◌}
use Rattle.std.specs.Option.{option_map}
use Rattle.lru.specs.LruCache.{last_entry, lru_cache}
use Rattle.rrc_cache.specs.Keyed.{KeyedOf, plain_pair}
use Rattle.rrc_cache.proofs.Plain.{fewer_plain, last_plain, plain_map}
use Rattle.rrc_cache.proofs.keyed.Keyed.pop_lru.Goals.{in-Some, in-None}
use Rattle.rrc_cache.proofs.keyed.Keyed.pop_lru.Goals as goal

pub returns-clause-value : goal.returns-clause-value
returns-clause-value c =
    let last : option_map (λ pair. plain_pair pair) c.pop_lru.result ≡ last_entry c.args.self.now.map.entries =
    ap (option_map (λ pair. plain_pair pair)) c.pop_lru.ensures.value
    ∙ (last_plain c.self.inside.cache.entries ∙ ap (λ (now : KeyedOf). last_entry now.map.entries) c.self.view_is) in
    elim c.match-pop_lru.branch [
      | in-Some w ↦ w.result-is ∙ (sym (ap (option_map (λ pair. plain_pair pair)) w.in-Some.is) ∙ last)
      | in-None w ↦ w.result-is ∙ (sym (ap (option_map (λ pair. plain_pair pair)) w.in-None.is) ∙ last)
    ]

pub returns-clause-entries : goal.returns-clause-entries
returns-clause-entries c =
    ap plain_map c.pop_lru.ensures.entries
    ∙ (ap (λ pairs. lru_cache pairs c.self.inside.cache.cap) (fewer_plain c.self.inside.cache.entries)
    ∙ ap (λ (now : KeyedOf). lru_cache (take (length now.map.entries - 1) now.map.entries) now.map.cap) c.self.view_is)
