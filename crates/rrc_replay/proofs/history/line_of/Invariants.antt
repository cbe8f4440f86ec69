-- SPDX-License-Identifier: MIT
-- the lines so far and those of the chapters that are left are the lines before the event
use Rattle.std.proofs.Common.{◌≡◌, ◌+◌, length, drop, map}
use Rattle.std.specs.List.{flat_map}
use Rattle.rrc_archive.specs.Archive.{lines_of, written_of}
use Rattle.rrc_replay.specs.Archives.{line_of}
use Rattle.rrc_replay.proofs.history.line_of.Given as goal

abbrev pub invariant-loop-chapter : goal.invariant-loop-chapter
invariant-loop-chapter l =
    l.line + length (flat_map lines_of (map written_of (drop l.chapter-index l.before))) ≡ line_of (map written_of l.before) l.snapshot.entries l.event
