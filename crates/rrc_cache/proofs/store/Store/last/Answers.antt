-- SPDX-License-Identifier: MIT
use Rattle.std.proofs.Common.{Option, ap, sym, ◌∙◌}
use Rattle.std.specs.Map.Iter.{deref_pair}
use Rattle.std.specs.Option.{option_map}
use Rattle.rrc_cache.specs.Lasts.{last_of}
use Rattle.rrc_cache.specs.Pairs.{EntriesOf, StoreOf}
use Rattle.rrc_cache.proofs.Last.{entry_in, last_hashed}
use Rattle.rrc_cache.proofs.store.Store.last.Goals as goal

pub returns-in-Some : goal.returns-in-Some
returns-in-Some c =
    ap Option.Some c.of.ensures
    ∙ (ap (λ found. option_map entry_in (option_map deref_pair found)) (sym c.in-Some.is)
    ∙ (ap (option_map entry_in) c.peek_lru.ensures
    ∙ (last_hashed c.held.result.now.entries
    ∙ (ap last_of c.held.ensures
    ∙ (ap (λ (map : EntriesOf). last_of map.entries) c.map.ensures ∙ ap (λ (store : StoreOf). last_of store.entries) c.self.view_is)))))

pub returns-in-None : goal.returns-in-None
returns-in-None c =
    ap (λ found. option_map entry_in (option_map deref_pair found)) (sym c.in-None.is)
    ∙ (ap (option_map entry_in) c.peek_lru.ensures
    ∙ (last_hashed c.held.result.now.entries
    ∙ (ap last_of c.held.ensures
    ∙ (ap (λ (map : EntriesOf). last_of map.entries) c.map.ensures ∙ ap (λ (store : StoreOf). last_of store.entries) c.self.view_is))))
