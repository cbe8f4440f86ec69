-- SPDX-License-Identifier: MIT
use Rattle.std.proofs.Common.{◌≡◌, ap, subst, sym}
use Rattle.std.specs.Option.{option_map}
use Rattle.rrc_history.specs.declared.event.Event.{Event}
use Rattle.rrc_history.specs.declared.event.Event.TheVariants.{Asked}
use Rattle.rrc_history.specs.Entries.{answered_from}
use Rattle.rrc_history.specs.Past.{key_at, reply_to}
use Rattle.rrc_history.specs.Views.{ask_in}
use Rattle.rrc_cache.specs.Lean.{IsPick}
use Rattle.rrc_cache.specs.Pairs.{StoreOf}
use Rattle.rrc_cache.specs.Part.{PartOf, past_of, Adds}
use Rattle.rrc_cache.proofs.LeanKeeping.{lean_done, pick_answers}
use Rattle.rrc_cache.proofs.lean.LeanPart.note_asked.Goals as goal

pub invariant_of-self : goal.invariant_of-self
invariant_of-self c =
    let part : PartOf = c.self.inside.history.part in
    let event : PartOf → Event = λ p. Asked c.args.tag (ask_in c.args.ask) (reply_to p.snapshot (past_of p) (ask_in c.args.ask)) in
    let P : PartOf → Type 0 = λ p. IsPick p (ask_in c.args.ask) c.args.pick in
    (lean_done c.args.self.now part c.then-self-inside.result.part c.self.inside.number c.self.inside.next c.self.inside.rules
    c.self.inside.store c.touch.new.store c.self.inside.swept_until c.self.inside.swept_until (event part) c.self.view_is c.then-self-inside.ensures c.self.invariant c.requires.open (
      c.args.pick,
      pick_answers part c.self.inside.rules c.self.inside.store.entries (ask_in c.args.ask) c.args.pick c.self.invariant.ruled c.self.invariant.leaves.contents
          (subst P (sym c.self.view_is) c.requires.pick),
      subst (λ slot. c.touch.new.store.entries ≡ answered_from (option_map (key_at (ask_in c.args.ask)) slot) c.self.inside.store.entries) c.pick.view_is
          (ap (λ (store : StoreOf). store.entries) c.touch.ensures),
    )
    (ap (λ (store : StoreOf). store.stale) c.touch.ensures) c.self.invariant.sweeps).holds

pub returns : goal.returns
returns c =
    let part : PartOf = c.self.inside.history.part in
    let event : PartOf → Event = λ p. Asked c.args.tag (ask_in c.args.ask) (reply_to p.snapshot (past_of p) (ask_in c.args.ask)) in
    let P : PartOf → Type 0 = λ p. IsPick p (ask_in c.args.ask) c.args.pick in
    let A : PartOf → Type 0 = λ p. Adds c.args.self.now c.then-self-inside.result.part (event p) in
    subst A c.self.view_is
    ((lean_done c.args.self.now part c.then-self-inside.result.part c.self.inside.number c.self.inside.next c.self.inside.rules
    c.self.inside.store c.touch.new.store c.self.inside.swept_until c.self.inside.swept_until (event part) c.self.view_is c.then-self-inside.ensures c.self.invariant c.requires.open (
      c.args.pick,
      pick_answers part c.self.inside.rules c.self.inside.store.entries (ask_in c.args.ask) c.args.pick c.self.invariant.ruled c.self.invariant.leaves.contents
          (subst P (sym c.self.view_is) c.requires.pick),
      subst (λ slot. c.touch.new.store.entries ≡ answered_from (option_map (key_at (ask_in c.args.ask)) slot) c.self.inside.store.entries) c.pick.view_is
          (ap (λ (store : StoreOf). store.entries) c.touch.ensures),
    )
    (ap (λ (store : StoreOf). store.stale) c.touch.ensures) c.self.invariant.sweeps).adds)
