-- SPDX-License-Identifier: MIT
use Rattle.std.proofs.Common.{◌≡◌, ◌+◌, ◌<◌, ◌≤◌, Bool, Some, sym, ap, subst, ◌∙◌, arith}
use Rattle.std.specs.Map.{lookup}
use Rattle.std.specs.Option.{option_copied, option_map}
use Rattle.lru.specs.LruCache.{LruCache}
use Rattle.rrc_history.specs.declared.snapshot.Entry.{Entry}
use Rattle.rrc_cache.specs.declared.clocked.Stamped.{Stamped}
use Rattle.rrc_cache.specs.declared.hashed.HashedKey.{HashedKey}
use Rattle.rrc_cache.specs.Clocked.{ahead_in}
use Rattle.rrc_cache.specs.Keyed.{hashed_eq, hashed_of}
use Rattle.rrc_cache.proofs.Clocking.{age_holds, ahead_below, lookup_bare}
use Rattle.rrc_cache.proofs.clocked.Clocked.get.Goals as goal

pub age_at-requires : goal.age_at-requires
age_at-requires c =
    let test : HashedKey → Bool = hashed_eq (hashed_of c.args.key) in
    let found : lookup test c.self.inside.cache.entries ≡ Some c.in-Some.stamped.now = sym c.peek.ensures ∙ ap option_copied c.in-Some.is in
    λ goes.
    let below : ahead_in test c.self.inside.cache.entries + c.in-Some.stamped.now.touched < c.self.inside.clock =
    ahead_below test c.self.inside.clock c.self.inside.cache.entries c.in-Some.stamped.now (c.self.invariant goes) found in
    omega (arith, below)

pub returns-in-Some-clause-entry : goal.returns-in-Some-clause-entry
returns-in-Some-clause-entry c =
    let test : HashedKey → Bool = hashed_eq (hashed_of c.args.key) in
    ap (option_map (λ (s : Stamped). s.entry)) (ap option_copied (sym c.in-Some.is) ∙ c.peek.ensures)
    ∙ (lookup_bare test c.self.inside.cache.entries ∙ ap (λ (m : LruCache HashedKey Entry). lookup test m.entries) c.self.view_is)

pub returns-in-Some-clause-ahead : goal.returns-in-Some-clause-ahead
returns-in-Some-clause-ahead c =
    let test : HashedKey → Bool = hashed_eq (hashed_of c.args.key) in
    let found : lookup test c.self.inside.cache.entries ≡ Some c.in-Some.stamped.now = sym c.peek.ensures ∙ ap option_copied c.in-Some.is in
    subst (λ (m : LruCache HashedKey Entry). ahead_in test m.entries ≤ c.age_at.result) c.self.view_is
    (age_holds test c.self.inside.clock c.age_at.result c.self.inside.cache.entries c.in-Some.stamped.now c.self.invariant found
    c.fits_memory.ensures c.age_at.ensures.goes c.age_at.ensures.stands)

pub returns-in-None-clause-entry : goal.returns-in-None-clause-entry
returns-in-None-clause-entry c =
    let test : HashedKey → Bool = hashed_eq (hashed_of c.args.key) in
    ap (option_map (λ (s : Stamped). s.entry)) (ap option_copied (sym c.in-None.is) ∙ c.peek.ensures)
    ∙ (lookup_bare test c.self.inside.cache.entries ∙ ap (λ (m : LruCache HashedKey Entry). lookup test m.entries) c.self.view_is)
