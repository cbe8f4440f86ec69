-- SPDX-License-Identifier: MIT
use Rattle.rrc_cache.proofs.Counted.{octets_in, without_last}
use Rattle.rrc_cache.proofs.holdings.Holdings.pop_lru.Goals as goal

pub invariant_of-self : goal.invariant_of-self
invariant_of-self c =
    c.without_last-self-inside.ensures (octets_in c.self.inside.keyed.map.entries) (octets_in c.pop_lru-gone.new.self.map.entries) c.self.invariant
    (without_last c.self.inside.keyed.map c.pop_lru-gone.new.self.map c.pop_lru-gone.result c.pop_lru-gone.ensures.value c.pop_lru-gone.ensures.entries)
