-- SPDX-License-Identifier: MIT
use Rattle.std.proofs.Common.{◌≡◌, ◌-◌, length, take, sym, ap, subst, ◌∙◌}
use Rattle.std.specs.Option.{option_map}
use Rattle.lru.specs.LruCache.{LruCache, last_entry, lru_cache}
use Rattle.rrc_history.specs.declared.snapshot.Entry.{Entry}
use Rattle.rrc_cache.specs.declared.clocked.Stamped.{Stamped}
use Rattle.rrc_cache.specs.declared.hashed.HashedKey.{HashedKey}
use Rattle.rrc_cache.specs.Clocked.{FallBelow, unstamped_map}
use Rattle.rrc_cache.proofs.Clocking.{bare, fall_taken, fewer_bare, last_bare}
use Rattle.rrc_cache.proofs.clocked.Clocked.pop_lru.Goals.{in-Some, in-None}
use Rattle.rrc_cache.proofs.clocked.Clocked.pop_lru.Goals as goal

pub invariant_of-self : goal.invariant_of-self
invariant_of-self c =
    λ goes.
    subst (λ (m : LruCache HashedKey Stamped). FallBelow c.self.inside.clock m.entries) (sym c.pop_lru.ensures.entries)
    (fall_taken (length c.self.inside.cache.entries - 1) c.self.inside.clock c.self.inside.cache.entries (c.self.invariant goes))

pub returns-clause-value : goal.returns-clause-value
returns-clause-value c =
    let last : option_map (λ pair. bare pair) c.pop_lru.result ≡ last_entry c.args.self.now.entries =
    ap (option_map (λ pair. bare pair)) c.pop_lru.ensures.value
    ∙ (last_bare c.self.inside.cache.entries ∙ ap (λ (m : LruCache HashedKey Entry). last_entry m.entries) c.self.view_is) in
    elim c.match-pop_lru.branch [
      | in-Some w ↦ w.result-is ∙ (sym (ap (option_map (λ pair. bare pair)) w.in-Some.is) ∙ last)
      | in-None w ↦ w.result-is ∙ (sym (ap (option_map (λ pair. bare pair)) w.in-None.is) ∙ last)
    ]

pub returns-clause-entries : goal.returns-clause-entries
returns-clause-entries c =
    ap unstamped_map c.pop_lru.ensures.entries
    ∙ (ap (λ es. lru_cache es c.self.inside.cache.cap) (fewer_bare c.self.inside.cache.entries)
    ∙ ap (λ (m : LruCache HashedKey Entry). lru_cache (take (length m.entries - 1) m.entries) m.cap) c.self.view_is)
