-- SPDX-License-Identifier: MIT
use Rattle.std.proofs.Common.{List, length, ◌<◌, ap, map, arith}
use Rattle.rrc_history.specs.declared.snapshot.Entry.{Entry}
use Rattle.rrc_archive.specs.Archive.{entry_text, text_of_lines}
use Rattle.rrc_text.proofs.OutputLemmas.{front_left, less_left}
use Rattle.rrc_archive.proofs.write.archive.put_entries.Goals as goal

pub loop-place-preserved : goal.loop-place-preserved
loop-place-preserved g c =
    let entries = c.args.entries.now in
    let place = c.loop-place.place in
    let last = c.len-place-end.ensures in
    let within : place < length entries = omega (arith, c.loop-place-test.true, last) in
    let left = front_left entries place c.entry.result.now within c.entry.ensures in
    let split = ap (λ (entries : List Entry). text_of_lines (map entry_text entries)) left in
    less_left c.loop-place.invariant split c.put_archive_line.ensures
