-- SPDX-License-Identifier: MIT
use Rattle.rrc_name.specs.Key.{key_eq}
use Rattle.rrc_name.specs.KeyRef.{key_of}
use Rattle.rrc_cache.proofs.Counted.{octets_in, without}
use Rattle.rrc_cache.proofs.holdings.Holdings.pop.Goals as goal

pub invariant_of-self : goal.invariant_of-self
invariant_of-self c =
    c.without-self-inside.ensures (octets_in c.self.inside.keyed.map.entries) (octets_in c.pop-gone.new.self.map.entries) c.self.invariant
    (without c.self.inside.keyed.map c.pop-gone.new.self.map (key_eq (key_of c.args.key)) c.pop-gone.result c.pop-gone.ensures.value c.pop-gone.ensures.entries)
