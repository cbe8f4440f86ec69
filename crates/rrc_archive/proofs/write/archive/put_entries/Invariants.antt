-- SPDX-License-Identifier: MIT
-- the lines of the entries so far were put, and the others are left
use Rattle.std.proofs.Common.{drop, map}
use Rattle.rrc_archive.specs.Archive.{entry_text, text_of_lines}
use Rattle.rrc_text.proofs.OutputLemmas.{Leaves}
use Rattle.rrc_archive.proofs.write.archive.put_entries.Given as goal

abbrev pub invariant-loop-place : goal.invariant-loop-place
invariant-loop-place g l =
    let whole = text_of_lines (map entry_text l.entries) in
    let rest = text_of_lines (map entry_text (drop l.place l.entries)) in
    Leaves g.W.Write.contents l.initial.output l.output whole rest
