-- SPDX-License-Identifier: MIT
use Rattle.std.proofs.Common.{List, ap, map}
use Rattle.rrc_history.specs.declared.event.Event.{Event}
use Rattle.rrc_archive.specs.Archive.{event_text, text_of_lines}
use Rattle.rrc_text.proofs.OutputLemmas.{front_left, less_left}
use Rattle.rrc_archive.proofs.write.archive.put_events.Goals as goal

pub loop-event-preserved : goal.loop-event-preserved
loop-event-preserved g c =
    let i = c.loop-event.event-index in
    let within = c.loop-event-test.true in
    let left = front_left c.args.events.now i c.event-item.result within c.event-item.is in
    let split = ap (λ (events : List Event). text_of_lines (map event_text events)) left in
    less_left c.loop-event.invariant split c.put_archive_line.ensures
