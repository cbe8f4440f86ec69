-- SPDX-License-Identifier: MIT
use Rattle.std.proofs.Common.{◌≡◌, Bool, Some, None, Result, Ok, Err, IsSome, OnErr, false, true, refl, sym, ap, subst, ◌∙◌}
use Rattle.std.specs.Prelude.{IfSome}
use Rattle.std.specs.Map.{lookup, set_value}
use Rattle.std.specs.Option.{option_copied_mut, option_map}
use Rattle.lru.specs.LruCache.{LruCache, lru_cache}
use Rattle.rrc_history.specs.declared.snapshot.Entry.{Entry}
use Rattle.rrc_cache.specs.declared.clocked.Clocked.TheInside.{Inside}
use Rattle.rrc_cache.specs.declared.clocked.Stamped.{Stamped}
use Rattle.rrc_cache.specs.declared.hashed.HashedKey.{HashedKey}
use Rattle.rrc_cache.specs.Clocked.{IsClocked, unstamped_map}
use Rattle.rrc_cache.specs.Keyed.{hashed_eq, hashed_of}
use Rattle.rrc_cache.proofs.Clocking.{lookup_bare, set_bare, set_falls, set_same}
use Rattle.rrc_cache.proofs.clocked.Clocked.write.Goals.{in-Some+in_ok-write_entry, in_default}
use Rattle.rrc_cache.proofs.clocked.Clocked.write.Goals as goal

on_err : {X E : Type 0} (P : Type 0) (result : Result X E) → P → OnErr result P
on_err P (Ok x) is = tt
on_err P (Err e) is = is

pub write_entry-requires : goal.write_entry-requires
write_entry-requires c =
    let test : HashedKey → Bool = hashed_eq (hashed_of c.args.key) in
    let found : lookup test c.self.inside.cache.entries ≡ Some c.in-Some.stamped.now = sym c.peek_mut.ensures.value ∙ ap option_copied_mut c.in-Some.is in
    let shown : lookup test c.args.self.now.entries ≡ Some c.in-Some.stamped.now.entry =
    sym (ap (option_map (λ (s : Stamped). s.entry)) (sym found) ∙ (lookup_bare test c.self.inside.cache.entries
    ∙ ap (λ (m : LruCache HashedKey Entry). lookup test m.entries) c.self.view_is)) in
    subst (λ found. IfSome found (λ (entry : Entry). entry.key ≡ c.args.offer.now.key)) shown c.requires.own

pub invariant_of-self : goal.invariant_of-self
invariant_of-self c =
    let test : HashedKey → Bool = hashed_eq (hashed_of c.args.key) in
    let found : lookup test c.self.inside.cache.entries ≡ Some c.in-Some.stamped.now = sym c.peek_mut.ensures.value ∙ ap option_copied_mut c.in-Some.is in
    let new : Stamped = record { entry = c.write_entry.new.entry; touched = c.in-Some.stamped.now.touched } in
    λ goes. set_falls test c.self.inside.clock c.self.inside.cache.entries c.in-Some.stamped.now new found refl (c.self.invariant goes)

pub returns-in_err-write_entry-clause-err : goal.returns-in_err-write_entry-clause-err
returns-in_err-write_entry-clause-err c =
    let test : HashedKey → Bool = hashed_eq (hashed_of c.args.key) in
    let found : lookup test c.self.inside.cache.entries ≡ Some c.in-Some.stamped.now = sym c.peek_mut.ensures.value ∙ ap option_copied_mut c.in-Some.is in
    let new : Stamped = record { entry = c.write_entry.new.entry; touched = c.in-Some.stamped.now.touched } in
    on_err _ c.from_residual.result
    (ap (λ es. lru_cache es c.self.inside.cache.cap) (set_same test c.self.inside.cache.entries c.in-Some.stamped.now new found c.in_err-write_entry.ensures.err) ∙ c.self.view_is)

pub invariant_of-self-2 : goal.invariant_of-self-2
invariant_of-self-2 c =
    let test : HashedKey → Bool = hashed_eq (hashed_of c.args.key) in
    let I : Inside → Type 0 = λ inside. IsClocked inside.clock inside.cache.entries in
    elim c.match-peek_mut.branch [
      | in-Some+in_ok-write_entry w ↦
          let found : lookup test c.self.inside.cache.entries ≡ Some w.in-Some.stamped.now = sym c.peek_mut.ensures.value ∙ ap option_copied_mut w.in-Some.is in
          let new : Stamped = record { entry = w.write_entry.new.entry; touched = w.in-Some.stamped.now.touched } in
          subst I (sym w.self-inside-is) (λ goes. set_falls test c.self.inside.clock c.self.inside.cache.entries w.in-Some.stamped.now new found refl (c.self.invariant goes))
      | in_default w ↦ subst I (sym w.self-inside-is) c.self.invariant
    ]

pub returns-clause-ok : goal.returns-clause-ok
returns-clause-ok c =
    let test : HashedKey → Bool = hashed_eq (hashed_of c.args.key) in
    elim c.match-peek_mut.branch [
      | in-Some+in_ok-write_entry w ↦
          let found : lookup test c.self.inside.cache.entries ≡ Some w.in-Some.stamped.now = sym c.peek_mut.ensures.value ∙ ap option_copied_mut w.in-Some.is in
          let new : Stamped = record { entry = w.write_entry.new.entry; touched = w.in-Some.stamped.now.touched } in
          ap (λ (inside : Inside). unstamped_map inside.cache) w.self-inside-is
          ∙ (ap (λ es. lru_cache es c.self.inside.cache.cap) (set_bare test new c.self.inside.cache.entries)
          ∙ (ap (λ (m : LruCache HashedKey Entry). lru_cache (set_value test m.entries w.write_entry.new.entry) m.cap) c.self.view_is
          ∙ ap (λ e. lru_cache (set_value test c.args.self.now.entries e) c.args.self.now.cap) w.in_ok-write_entry.ensures.ok))
      | in_default w ↦
          let none : lookup test c.self.inside.cache.entries ≡ None = sym c.peek_mut.ensures.value ∙ ap option_copied_mut w.in_default.is in
          let shown : lookup test c.args.self.now.entries ≡ None =
          sym (ap (option_map (λ (s : Stamped). s.entry)) (sym none) ∙ (lookup_bare test c.self.inside.cache.entries
          ∙ ap (λ (m : LruCache HashedKey Entry). lookup test m.entries) c.self.view_is)) in
          let bad : false ≡ true = subst (λ found. IsSome found) shown c.requires.held in absurd cc
    ]
