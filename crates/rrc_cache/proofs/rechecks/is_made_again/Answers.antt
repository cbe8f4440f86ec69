-- SPDX-License-Identifier: MIT
use Rattle.std.proofs.Common.{◌≡◌, ℕ, List, refl, sym, ap, subst, ◌∙◌}
use Rattle.std.specs.Cmp.Lexicographic.{pointwise}
use Rattle.rrc_name.specs.Key.{KeyOf, key_eq}
use Rattle.rrc_history.specs.declared.event.Event.{Event}
use Rattle.rrc_history.specs.declared.event.Event.TheVariants.{Offered, Asked, Swept}
use Rattle.rrc_history.specs.declared.snapshot.Entry.{Entry}
use Rattle.rrc_history.specs.Asked.{AskOf}
use Rattle.rrc_history.specs.Entries.{staying}
use Rattle.rrc_history.specs.Past.{is_among}
use Rattle.rrc_history.specs.Views.{ask_in}
use Rattle.rrc_cache.specs.Calls.{IsMadeAgain}
use Rattle.rrc_cache.specs.Pairs.{StoreOf}
use Rattle.rrc_cache.specs.Taken.{AreExpiredKeys}
use Rattle.rrc_cache.proofs.Again.{offer_told, ask_told, sweep_told}
use Rattle.rrc_cache.proofs.rechecks.is_made_again.Goals as goal

pub returns-in_ok-became-in-Offered-clause-again : goal.returns-in_ok-became-in-Offered-clause-again
returns-in_ok-became-in-Offered-clause-again c =
    let P : Event → Type 0 = λ event. IsMadeAgain c.args.rules c.args.number c.args.store.now.entries event c.is_told.result c.take.new.store.entries in
    subst P (sym c.in-Offered.is)
    (record {
      made = Offered c.in_ok-became-in-Offered.became c.in-Offered.tag c.in-Offered.offer c.in_ok-became-in-Offered.went;
      call = (refl, refl);
      writes = (c.take.ensures.fit, c.in_ok-became-in-Offered.ensures.ok);
      told = offer_told c.in-Offered.tag c.in-Offered.offer c.in_ok-became-in-Offered.became c.in-Offered.outcome c.in_ok-became-in-Offered.went c.in-Offered.evicted
          c.is_told.result c.is_told.ensures;
    })

pub returns-in-Asked-clause-again : goal.returns-in-Asked-clause-again
returns-in-Asked-clause-again c =
    let P : Event → Type 0 = λ event. IsMadeAgain c.args.rules c.args.number c.args.store.now.entries event c.compare-same.result.0 c.touch.new.store.entries in
    let ask : AskOf = ask_in c.as_ref-ask.result in
    let Q : AskOf → Type 0 = λ asked. P (Asked c.in-Asked.tag asked c.in-Asked.reply) in
    subst P (sym c.in-Asked.is)
    (subst Q c.as_ref-ask.ensures
    (record {
      made = Asked c.in-Asked.tag ask c.compare-same.ensures.answer;
      call = (refl, refl);
      writes = (c.compare-same.result.1, c.compare-same.ensures.answered, ap (λ (store : StoreOf). store.entries) c.touch.ensures);
      told = ask_told c.in-Asked.tag ask c.compare-same.ensures.answer c.in-Asked.reply c.compare-same.result.0 c.compare-same.ensures.told;
    }))

pub returns-in_ok-expired-in-Swept-clause-again : goal.returns-in_ok-expired-in-Swept-clause-again
returns-in_ok-expired-in-Swept-clause-again c =
    let P : Event → Type 0 = λ event. IsMadeAgain c.args.rules c.args.number c.args.store.now.entries event c.eq.result c.remove.new.store.entries in
    let entries : List Entry = c.args.store.now.entries in
    let keys : List KeyOf = c.in_ok-expired-in-Swept.expired.items in
    let expired : AreExpiredKeys c.args.rules.stale c.in-Swept.moment entries keys =
    subst (λ (stale : ℕ). AreExpiredKeys stale c.in-Swept.moment entries keys) c.requires.stale c.in_ok-expired-in-Swept.ensures.expired in
    let removed : c.remove.new.store.entries ≡ staying (λ key. is_among key keys) entries =
    ap (λ (store : StoreOf). store.entries) c.remove.ensures
    ∙ (ap (λ (ks : List KeyOf). staying (λ key. is_among key ks) c.expired_keys.new.store.entries) c.as_slice.ensures.value
    ∙ ap (λ (store : StoreOf). staying (λ key. is_among key keys) store.entries) c.expired_keys.ensures.same) in
    let same : c.eq.result ≡ pointwise key_eq keys c.in-Swept.gone =
    c.eq.ensures ∙ (ap (λ (ks : List KeyOf). pointwise key_eq ks c.as_slice-in-Swept-2.result.now) c.as_slice-in-Swept.ensures.value
    ∙ ap (pointwise key_eq keys) c.as_slice-in-Swept-2.ensures) in
    subst P (sym c.in-Swept.is)
    (record {
      made = Swept c.in-Swept.tag c.in-Swept.moment keys;
      call = (refl, refl);
      writes = (expired, removed);
      told = sweep_told c.in-Swept.tag c.in-Swept.moment keys c.in-Swept.gone c.eq.result same;
    })
