-- SPDX-License-Identifier: MIT
use Rattle.std.proofs.Common.{Bool, sym, ap, subst, ◌∙◌}
use Rattle.std.specs.Map.{lookup, remove_entry}
use Rattle.std.specs.Option.{option_map}
use Rattle.lru.specs.LruCache.{LruCache, lru_cache}
use Rattle.rrc_history.specs.declared.snapshot.Entry.{Entry}
use Rattle.rrc_cache.specs.declared.clocked.Stamped.{Stamped}
use Rattle.rrc_cache.specs.declared.hashed.HashedKey.{HashedKey}
use Rattle.rrc_cache.specs.Clocked.{FallBelow, unstamped_map}
use Rattle.rrc_cache.specs.Keyed.{hashed_eq, hashed_of}
use Rattle.rrc_cache.proofs.Clocking.{fall_removed, lookup_bare, remove_bare}
use Rattle.rrc_cache.proofs.clocked.Clocked.pop.Goals as goal

pub invariant_of-self : goal.invariant_of-self
invariant_of-self c =
    let test : HashedKey → Bool = hashed_eq (hashed_of c.args.key) in
    λ goes.
    subst (λ (m : LruCache HashedKey Stamped). FallBelow c.self.inside.clock m.entries) (sym c.pop.ensures.entries)
    (fall_removed test c.self.inside.clock c.self.inside.cache.entries (c.self.invariant goes))

pub returns-clause-value : goal.returns-clause-value
returns-clause-value c =
    let test : HashedKey → Bool = hashed_eq (hashed_of c.args.key) in
    c.entry_of_stamped.ensures
    ∙ (ap (option_map (λ (s : Stamped). s.entry)) c.pop.ensures.value
    ∙ (lookup_bare test c.self.inside.cache.entries ∙ ap (λ (m : LruCache HashedKey Entry). lookup test m.entries) c.self.view_is))

pub returns-clause-entries : goal.returns-clause-entries
returns-clause-entries c =
    let test : HashedKey → Bool = hashed_eq (hashed_of c.args.key) in
    ap unstamped_map c.pop.ensures.entries
    ∙ (ap (λ es. lru_cache es c.self.inside.cache.cap) (remove_bare test c.self.inside.cache.entries)
    ∙ ap (λ (m : LruCache HashedKey Entry). lru_cache (remove_entry test m.entries) m.cap) c.self.view_is)
