-- SPDX-License-Identifier: MIT
use Rattle.std.proofs.Common.{◌≡◌, ◌+◌, ◌++◌, ◌∷◌, [], take, ap, sym, ◌∙◌}
use Rattle.std.proofs.lemmas.List.{take_more}
use Rattle.rrc_collate.specs.Fetches.{listed}
use Rattle.rrc_collate.specs.Turns.{turn_told, turns_told}
use Rattle.rrc_collate.proofs.Turned.{told_more}
use Rattle.rrc_collate.proofs.turns.turns_of.Goals as goal

pub loop-event-preserved : goal.loop-event-preserved
loop-event-preserved c =
    let events = c.args.events.now in
    let fates = c.args.fates.now in
    let turns = c.args.turns.now in
    let i = c.loop-event.event-index in
    let event = c.event-item.result in
    let more : take (i + 1) events ≡ take i events ++ event ∷ [] = take_more events i event c.loop-event-test.true ∙ ap (λ e. take i events ++ e ∷ []) (sym c.event-item.is) in
    c.in_ok-put.ensures
    ∙ (ap (λ l. l ++ listed c.turn_at.result) c.loop-event.invariant
    ∙ (ap (λ o. turns_told fates turns (take i events) ++ listed o) (c.turn_at.ensures ∙ ap (turn_told fates turns) c.tag_of.ensures)
    ∙ (sym (told_more fates turns (take i events) event) ∙ ap (turns_told fates turns) (sym more))))
