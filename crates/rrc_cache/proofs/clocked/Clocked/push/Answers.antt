-- SPDX-License-Identifier: MIT
use Rattle.std.proofs.Common.{◌+◌, Bool, refl, sym, ap, subst, ◌∙◌, arith}
use Rattle.std.specs.Map.{lookup}
use Rattle.std.specs.Option.{option_map}
use Rattle.lru.specs.LruCache.{LruCache, lru_cache, put_entries}
use Rattle.rrc_history.specs.declared.snapshot.Entry.{Entry}
use Rattle.rrc_cache.specs.declared.clocked.Stamped.{Stamped}
use Rattle.rrc_cache.specs.declared.hashed.HashedKey.{HashedKey}
use Rattle.rrc_cache.specs.Clocked.{FallBelow, unstamped_map}
use Rattle.rrc_cache.specs.Keyed.{hashed_eq}
use Rattle.rrc_cache.proofs.Clocking.{lookup_bare, put_bare, put_falls, ticks}
use Rattle.rrc_cache.proofs.clocked.Clocked.push.Goals as goal

pub invariant_of-self-2 : goal.invariant_of-self-2
invariant_of-self-2 c =
    let new : Stamped = record { entry = c.args.entry; touched = c.self.inside.clock } in
    λ goes.
    ticks c.self.inside.clock c.saturating_add-self-inside.result (λ n. FallBelow n c.push.new.cache.entries) goes
    (omega (arith, goes, c.saturating_add-self-inside.ensures))
    (λ before.
    subst (λ (m : LruCache HashedKey Stamped). FallBelow (c.self.inside.clock + 1) m.entries) (sym c.in_ok-old.ensures.entries)
    (put_falls c.self.inside.clock c.self.inside.cache c.args.key new refl (c.self.invariant before)))

pub returns-clause-old : goal.returns-clause-old
returns-clause-old c =
    let test : HashedKey → Bool = hashed_eq c.args.key in
    c.entry_of_stamped.ensures
    ∙ (ap (option_map (λ (s : Stamped). s.entry)) c.in_ok-old.ensures.old
    ∙ (lookup_bare test c.self.inside.cache.entries ∙ ap (λ (m : LruCache HashedKey Entry). lookup test m.entries) c.self.view_is))

pub returns-clause-entries : goal.returns-clause-entries
returns-clause-entries c =
    let new : Stamped = record { entry = c.args.entry; touched = c.self.inside.clock } in
    ap unstamped_map c.in_ok-old.ensures.entries
    ∙ (ap (λ es. lru_cache es c.self.inside.cache.cap) (put_bare c.self.inside.cache c.args.key new)
    ∙ ap (λ (m : LruCache HashedKey Entry). lru_cache (put_entries hashed_eq m c.args.key c.args.entry) m.cap) c.self.view_is)
