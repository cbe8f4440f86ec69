-- SPDX-License-Identifier: MIT
use Rattle.std.proofs.Common.{◌≡◌, ◌+◌, List, ap, arith}
use Rattle.rrc_history.specs.Octets.{entry_octets, octets_of}
use Rattle.rrc_cache.specs.declared.clocked.Stamped.{Stamped}
use Rattle.rrc_cache.specs.declared.hashed.HashedKey.{HashedKey}
use Rattle.rrc_cache.specs.Keyed.{hashed_entries}
use Rattle.rrc_cache.proofs.octet_count.of_all.Goals as goal

pub loop-stamped-preserved : goal.loop-stamped-preserved
loop-stamped-preserved c =
    let first : octets_of (hashed_entries c.loop-stamped.stamped-iterator) ≡ entry_octets c.in-Some.stamped.now.entry + octets_of (hashed_entries c.next.new.self) =
    ap (λ (ps : List (HashedKey × Stamped)). octets_of (hashed_entries ps)) c.in-Some.ensures.steps in
    omega (arith, first, c.loop-stamped.invariant, c.octets_of-octets.ensures)

pub returns : goal.returns
returns c =
    let none : octets_of (hashed_entries c.loop-stamped.stamped-iterator) ≡ 0 =
    ap (λ (ps : List (HashedKey × Stamped)). octets_of (hashed_entries ps)) c.in-None.ensures.steps.0 in
    omega (arith, none, c.loop-stamped.invariant)
