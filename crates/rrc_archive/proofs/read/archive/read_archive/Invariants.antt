-- SPDX-License-Identifier: MIT
-- the lines so far are an archive, and there are so many of them
use Rattle.std.proofs.Common.{◌≡◌, ◌++◌, length}
use Rattle.std.specs.List.{AllByRecursion}
use Rattle.rrc_archive.specs.Archive.{archive_text}
use Rattle.rrc_archive.specs.ArchiveLaw.{HoldsChapter}
use Rattle.rrc_archive.specs.ArchiveLines.{line_count}
use Rattle.rrc_archive.proofs.read.archive.read_archive.Given as goal

abbrev pub invariant-loop-line : goal.invariant-loop-line
invariant-loop-line l = record {
  whole : l.octets ≡ archive_text l.chapters ++ l.rest;
  held : AllByRecursion HoldsChapter l.chapters;
  numbered : line_count (archive_text l.chapters) ≡ l.number;
}

abbrev pub decreases-loop-line : goal.decreases-loop-line
decreases-loop-line l = length l.rest
