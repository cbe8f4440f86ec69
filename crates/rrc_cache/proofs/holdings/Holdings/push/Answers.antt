-- SPDX-License-Identifier: MIT
use Rattle.std.proofs.Common.{◌+◌, length, ◌<◌, sym, subst}
use Rattle.rrc_history.specs.Octets.{entry_octets}
use Rattle.rrc_cache.specs.Keyed.{KeyedOf}
use Rattle.rrc_cache.proofs.Counted.{octets_in, with_put}
use Rattle.rrc_cache.proofs.holdings.Holdings.push.Goals as goal

pub invariant_of-self-2 : goal.invariant_of-self-2
invariant_of-self-2 c =
    c.without-self-inside.ensures (entry_octets c.args.entry + octets_in c.self.inside.keyed.map.entries) (octets_in c.push.new.self.map.entries)
    (c.with-octets.ensures (octets_in c.self.inside.keyed.map.entries) c.self.invariant)
    (with_put c.self.inside.keyed.map c.push.new.self.map c.args.key c.args.entry c.in_ok-old.old
    (subst (λ (now : KeyedOf). length now.map.entries < now.map.cap) (sym c.self.view_is) c.requires.room)
    c.in_ok-old.ensures.old c.in_ok-old.ensures.entries)
