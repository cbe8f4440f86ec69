-- SPDX-License-Identifier: MIT
use Rattle.std.proofs.Common.{◌≡◌, ◌<◌, ◌+◌, ◌++◌, ◌∷◌, [], take, length, ap, sym, ◌∙◌}
use Rattle.std.proofs.lemmas.List.{take_more}
use Rattle.rrc_history.specs.declared.event.Tag.{Tag}
use Rattle.rrc_collate.specs.Calls.{tag_of}
use Rattle.rrc_collate.proofs.HandLemmas.{dealt_more, named_more}
use Rattle.rrc_collate.proofs.hands.deal.Goals as goal

pub loop-event-preserved : goal.loop-event-preserved
loop-event-preserved c =
    let events = c.args.events.now in
    let i = c.loop-event.event-index in
    let event = c.event-item.result in
    let line = c.tag_of-line.result.line in
    let is_line : line ≡ (tag_of event).line = ap (λ (t : Tag). t.line) c.tag_of-line.ensures in
    let within : line < length c.args.owners.now = c.if-line-owners.false in
    let more : take (i + 1) events ≡ take i events ++ event ∷ [] =
    take_more events i event c.loop-event-test.true ∙ ap (λ e. take i events ++ e ∷ []) (sym c.event-item.is) in
    rw more (record {
      named = named_more (length c.args.owners.now) (take i events) event line is_line within c.loop-event.invariant.named;
      dealt = dealt_more c.args.workers c.args.owners.now (take i events) c.loop-event.hands c.put.new.self event line c.requires is_line within c.loop-event.invariant.dealt c.in_ok-put.ensures;
    })
