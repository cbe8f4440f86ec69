-- SPDX-License-Identifier: MIT
use Rattle.std.proofs.Common.{◌≡◌, Bool, Some, None, refl, sym, ap, ◌∙◌, arith}
use Rattle.std.specs.Prelude.{is_some}
use Rattle.std.specs.Map.{lookup}
use Rattle.std.specs.Option.{option_copied_mut, option_map}
use Rattle.lru.specs.LruCache.{LruCache, lru_cache, promoted}
use Rattle.rrc_history.specs.declared.snapshot.Entry.{Entry}
use Rattle.rrc_cache.specs.declared.clocked.Stamped.{Stamped}
use Rattle.rrc_cache.specs.declared.hashed.HashedKey.{HashedKey}
use Rattle.rrc_cache.specs.Clocked.{FallBelow}
use Rattle.rrc_cache.specs.Keyed.{hashed_eq, hashed_of}
use Rattle.rrc_cache.proofs.Clocking.{bare_unmoved, lookup_bare, restamped, restamped_bare, restamped_falls, ticks}
use Rattle.rrc_cache.proofs.clocked.Clocked.promote.Goals as goal

pub invariant_of-self : goal.invariant_of-self
invariant_of-self c =
    let test : HashedKey → Bool = hashed_eq (hashed_of c.args.key) in
    let found : lookup test c.self.inside.cache.entries ≡ Some c.in-Some.stamped.now = sym c.get_mut.ensures.value ∙ ap option_copied_mut c.in-Some.is in
    let new : Stamped = record { entry = c.in-Some.stamped.now.entry; touched = c.self.inside.clock } in
    λ goes.
    ticks c.self.inside.clock c.saturating_add-self-inside.result (λ n. FallBelow n (restamped test c.self.inside.cache.entries new)) goes
    (omega (arith, goes, c.saturating_add-self-inside.ensures))
    (λ before. restamped_falls test c.self.inside.clock c.self.inside.cache.entries c.in-Some.stamped.now new found refl (c.self.invariant before))

pub returns-in-Some-clause-value : goal.returns-in-Some-clause-value
returns-in-Some-clause-value c =
    let test : HashedKey → Bool = hashed_eq (hashed_of c.args.key) in
    let found : lookup test c.self.inside.cache.entries ≡ Some c.in-Some.stamped.now = sym c.get_mut.ensures.value ∙ ap option_copied_mut c.in-Some.is in
    ap is_some (ap (option_map (λ (s : Stamped). s.entry)) (sym found) ∙ (lookup_bare test c.self.inside.cache.entries
    ∙ ap (λ (m : LruCache HashedKey Entry). lookup test m.entries) c.self.view_is))

pub returns-in-Some-clause-entries : goal.returns-in-Some-clause-entries
returns-in-Some-clause-entries c =
    let test : HashedKey → Bool = hashed_eq (hashed_of c.args.key) in
    let found : lookup test c.self.inside.cache.entries ≡ Some c.in-Some.stamped.now = sym c.get_mut.ensures.value ∙ ap option_copied_mut c.in-Some.is in
    let new : Stamped = record { entry = c.in-Some.stamped.now.entry; touched = c.self.inside.clock } in
    ap (λ es. lru_cache es c.self.inside.cache.cap) (restamped_bare test c.self.inside.cache.entries c.in-Some.stamped.now new found refl)
    ∙ ap (λ (m : LruCache HashedKey Entry). lru_cache (promoted test m.entries) m.cap) c.self.view_is

pub returns-in-None-clause-value : goal.returns-in-None-clause-value
returns-in-None-clause-value c =
    let test : HashedKey → Bool = hashed_eq (hashed_of c.args.key) in
    let none : lookup test c.self.inside.cache.entries ≡ None = sym c.get_mut.ensures.value ∙ ap option_copied_mut c.in-None.is in
    ap is_some (ap (option_map (λ (s : Stamped). s.entry)) (sym none) ∙ (lookup_bare test c.self.inside.cache.entries
    ∙ ap (λ (m : LruCache HashedKey Entry). lookup test m.entries) c.self.view_is))

pub returns-in-None-clause-entries : goal.returns-in-None-clause-entries
returns-in-None-clause-entries c =
    let test : HashedKey → Bool = hashed_eq (hashed_of c.args.key) in
    let none : lookup test c.self.inside.cache.entries ≡ None = sym c.get_mut.ensures.value ∙ ap option_copied_mut c.in-None.is in
    ap (λ es. lru_cache es c.self.inside.cache.cap) (bare_unmoved test c.self.inside.cache.entries none)
    ∙ ap (λ (m : LruCache HashedKey Entry). lru_cache (promoted test m.entries) m.cap) c.self.view_is
