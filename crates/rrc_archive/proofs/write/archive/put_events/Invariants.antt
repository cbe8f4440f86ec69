-- SPDX-License-Identifier: MIT
-- the lines of the events so far were put, and the others are left
use Rattle.std.proofs.Common.{drop, map}
use Rattle.rrc_archive.specs.Archive.{event_text, text_of_lines}
use Rattle.rrc_text.proofs.OutputLemmas.{Leaves}
use Rattle.rrc_archive.proofs.write.archive.put_events.Given as goal

abbrev pub invariant-loop-event : goal.invariant-loop-event
invariant-loop-event g l =
    let whole = text_of_lines (map event_text l.events) in
    let rest = text_of_lines (map event_text (drop l.event-index l.events)) in
    Leaves g.W.Write.contents l.initial.output l.output whole rest
