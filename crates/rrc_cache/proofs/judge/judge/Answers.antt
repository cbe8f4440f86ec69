-- SPDX-License-Identifier: MIT
use Rattle.std.proofs.Common.{◌≡◌, ◌≤◌, ◌&&◌, Bool, true, false, ℕ, List, Option, Some, None, refl, sym, ap, subst, ◌∙◌}
use Rattle.std.specs.Prelude.{IfSome}
use Rattle.std.specs.Option.{option_map}
use Rattle.rrc_name.specs.Key.{KeyOf, key_eq}
use Rattle.rrc_name.specs.declared.slot.Slot.TheVariants.{Set, Nx, Failed}
use Rattle.rrc_history.specs.Asked.{AskOf}
use Rattle.rrc_history.specs.Past.{entry_at, key_at}
use Rattle.rrc_history.specs.declared.snapshot.Entry.{Entry}
use Rattle.rrc_history.specs.declared.judge.Held.{Held}
use Rattle.rrc_history.specs.Judged.{Found, governing, is_before, recent_failure}
use Rattle.rrc_history.specs.Lives.{is_unexpired, IsTimely}
use Rattle.rrc_history.specs.Views.{ask_in, held_in}
use Rattle.rrc_cache.specs.declared.aged_held.AgedHeld.{AgedHeld}
use Rattle.rrc_cache.specs.Ages.{age_by, ahead_of}
use Rattle.rrc_cache.proofs.Answering.{governing_ahead}
use Rattle.rrc_cache.proofs.Sound.{timely_found}
use Rattle.rrc_cache.proofs.judge.judge.Goals as goal

-- a recent failure is the one that was found
timely_failure : (found : Found) (moment : ℕ) → IfSome found.failed IsTimely → IfSome (recent_failure found moment) IsTimely
timely_failure found moment timely = by found.failed refl timely
  where
    by : (failed : Option Entry) → found.failed ≡ failed → IfSome failed IsTimely → IfSome (recent_failure found moment) IsTimely
    by None is timely' = rw is tt
    by (Some failure) is timely' = test (is_unexpired failure moment && (is_before found.set failure && is_before found.nx failure)) refl
      where
        test : (b : Bool) → (is_unexpired failure moment && (is_before found.set failure && is_before found.nx failure)) ≡ b → IfSome (recent_failure found moment) IsTimely
        test true recent = rw (is, recent) timely'
        test false recent = rw (is, recent) tt

pub retry_from-retry_from-requires : goal.retry_from-retry_from-requires
retry_from-retry_from-requires c =
    let P : Option Entry → Type 0 = λ f. IfSome f IsTimely in
    let key : KeyOf = key_at (ask_in c.args.ask) (Failed c.args.ask.rtype) in
    let found : Found = record { set = option_map held_in c.get-set.result.held; nx = option_map held_in c.get_negative-nx.result.held; failed = option_map held_in c.get_negative-failed.result.held } in
    let failed : IfSome found.failed IsTimely =
    subst P (sym c.get_negative-failed.ensures.held) (timely_found (λ (entry : Entry). key_eq key entry.key) c.args.store.now.entries c.requires.timely) in
    subst P (sym c.recent_failure-failure.ensures) (timely_failure found c.args.ask.moment failed)

-- no more entries stand before the one that governs than its age
ahead : (entries : List Entry) (ask : AskOf) (set nx : AgedHeld) (governs : Option Held) (age : ℕ)
    → option_map held_in set.held ≡ entry_at (key_at ask (Set ask.rtype)) entries → option_map held_in nx.held ≡ entry_at (key_at ask Nx) entries
    → IfSome set.held (λ _. ahead_of (key_at ask (Set ask.rtype)) entries ≤ set.age) → IfSome nx.held (λ _. ahead_of (key_at ask Nx) entries ≤ nx.age)
    → option_map held_in governs ≡ governing (option_map held_in set.held) (option_map held_in nx.held) ask.moment
    → age ≡ age_by (option_map held_in governs) set.age nx.age → IfSome governs (λ held. ahead_of held.key.now entries ≤ age)
ahead entries ask set nx governs age at_set at_nx ahead_set ahead_nx is aged =
    subst (λ (n : ℕ). IfSome governs (λ held. ahead_of held.key.now entries ≤ n)) (sym aged)
    (governing_ahead entries ask set.held nx.held governs set.age nx.age at_set at_nx ahead_set ahead_nx is)

pub returns-in-Some-clause-ahead : goal.returns-in-Some-clause-ahead
returns-in-Some-clause-ahead c =
    let asked : AskOf = ask_in c.args.ask in
    let entries : List Entry = c.args.store.now.entries in
    ahead entries asked c.get-set.result c.get_negative-nx.result c.governing-governing.result c.governing_age-age.result
    (c.get-set.ensures.held ∙ ap (λ (key : KeyOf). entry_at key entries) c.key_at.ensures) c.get_negative-nx.ensures.held
    (subst (λ (key : KeyOf). IfSome c.get-set.result.held (λ _. ahead_of key entries ≤ c.get-set.result.age)) c.key_at.ensures c.get-set.ensures.ahead)
    c.get_negative-nx.ensures.ahead c.governing-governing.ensures c.governing_age-age.ensures

pub returns-in-Some-reply_of-clause-ahead : goal.returns-in-Some-reply_of-clause-ahead
returns-in-Some-reply_of-clause-ahead c =
    let asked : AskOf = ask_in c.args.ask in
    let entries : List Entry = c.args.store.now.entries in
    ahead entries asked c.get-set.result c.get_negative-nx.result c.governing-governing.result c.governing_age-age.result
    (c.get-set.ensures.held ∙ ap (λ (key : KeyOf). entry_at key entries) c.key_at.ensures) c.get_negative-nx.ensures.held
    (subst (λ (key : KeyOf). IfSome c.get-set.result.held (λ _. ahead_of key entries ≤ c.get-set.result.age)) c.key_at.ensures c.get-set.ensures.ahead)
    c.get_negative-nx.ensures.ahead c.governing-governing.ensures c.governing_age-age.ensures
