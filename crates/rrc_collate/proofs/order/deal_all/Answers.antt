-- SPDX-License-Identifier: MIT
use Rattle.std.proofs.Common.{◌≡◌, ◌+◌, ◌++◌, ◌∷◌, [], List, take, length, ap, subst, sym, ◌∙◌}
use Rattle.std.specs.Prelude.{IfSome, is_some}
use Rattle.std.proofs.lemmas.List.{take_more}
use Rattle.std.proofs.lemmas.List.Elements.{All-push}
use Rattle.rrc_history.specs.declared.event.Event.{Event}
use Rattle.rrc_history.specs.declared.chains.Whole.{Whole}
use Rattle.rrc_collate.specs.Hands.{AreNamed, AreDealt}
use Rattle.rrc_collate.proofs.HandLemmas.{zip_push}
use Rattle.rrc_collate.proofs.order.deal_all.Goals as goal

pub loop-whole-preserved : goal.loop-whole-preserved
loop-whole-preserved c =
    let wholes = c.args.wholes.now in
    let i = c.loop-whole.whole-index in
    let whole = c.whole-item.result in
    let events = c.as_slice.result.now in
    let owners = c.args.owners.now in
    let is_events : events ≡ whole.events = c.as_slice.ensures ∙ ap (λ (w : Whole). w.events) c.whole.view_is in
    let more : take (i + 1) wholes ≡ take i wholes ++ whole ∷ [] = take_more wholes i whole c.loop-whole-test.true ∙ ap (λ w. take i wholes ++ w ∷ []) (sym c.whole-item.is) in
    let named = subst (λ es. AreNamed (length owners) es) is_events (c.in_ok-deal.ensures.named.0 (ap is_some c.in-Some.is)) in
    let dealt = subst (λ es. AreDealt c.args.workers owners es c.in-Some.hands) is_events
    (subst (λ found. IfSome found (λ hands. AreDealt c.args.workers owners events hands)) c.in-Some.is c.in_ok-deal.ensures.dealt) in
    let Dealt : Whole → List (List Event) → Type 0 = λ whole hands. AreDealt c.args.workers owners whole.events hands in
    rw (more, c.in_ok-push-in-Some.ensures.items) (record {
      named = All-push (λ (whole : Whole). AreNamed (length owners) whole.events) (take i wholes) whole c.loop-whole.invariant.named named;
      dealt = zip_push Dealt (take i wholes) c.loop-whole.parts.items whole c.in-Some.hands c.loop-whole.invariant.dealt dealt;
    })
